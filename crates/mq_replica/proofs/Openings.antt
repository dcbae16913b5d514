-- What an opening leaves, by what a recovery does.
use Rattle.std.proofs.Common.{◌≡◌, ◌+◌, ◌*◌, ◌^◌, ℕ, List, false, ap, arith, refl, subst, sym, ◌∙◌, Err}
use Rattle.mq_blocks.specs.declared.geometry.Geometry.{Geometry}
use Rattle.mq_recover.specs.Drives.{AreBoundsKept, DriveState, view_over}
use Rattle.mq_recover.specs.RecoverCauses.{OnDrive, OnImage}
use Rattle.mq_recover.specs.Steps.{HasRecovered, IsCutShort}
use Rattle.mq_recover.specs.declared.refusal.ImageFault.{ImageFault}
use Rattle.mq_recover.specs.declared.refusal.RecoverRefusal.{RecoverRefusal}
use Rattle.mq_recover.specs.declared.refusal.RecoverRefusal.TheVariants as recovery
use Rattle.mq_replica.specs.Apart.{IsLow}
use Rattle.mq_replica.specs.Applying.{PortsState}
use Rattle.mq_replica.specs.Contents.{number_in}
use Rattle.mq_replica.specs.Offers.{IsGivenBack, IsOpenRefused, IsOpenedOn, MayOpen}
use Rattle.mq_replica.specs.Updates.{last_home}
use Rattle.mq_replica.proofs.Offered.{on}
use Rattle.mq_replica.proofs.Recovered.{low_apart, rings_same}
use Rattle.mq_replica.proofs.Served.{last_within}
use Rattle.mq_replica.proofs.Standing.{from_recovery, reaches_of}

pub opened_on : (g : Geometry) (given : DriveState) (old new : PortsState) (prefix base number : ℕ) (block : List ℕ) → g.queues ≡ 1 → old.drive ≡ given → HasRecovered g old.drive prefix base new.drive → new.faults ≡ old.faults → AreBoundsKept g old.drive new.drive → block ≡ (view_over g new.drive).home (last_home g) → number ≡ number_in block → IsOpenedOn g given (on g number 0 false new)
opened_on g given old new prefix base number block one same whole faults bounds last said =
    let d : IsOpenedOn g old.drive (on g number 0 false new) = record {
      shape = refl;
      bounds = bounds;
      ds = whole.ds;
      read = reaches_of g old.drive whole.ds base whole.read;
      images = from_recovery g old.drive whole.ds base new.drive whole.stands;
      reached = said ∙ ap number_in (last ∙ whole.recovered.homes (last_home g) (last_within g));
      offers = refl;
      stopped = refl;
      entries = (whole.recovered.heads 0 (omega (arith, one))).doorbell;
      rings = rings_same g one old new prefix base whole faults;
    } in
    subst (λ (x : DriveState). IsOpenedOn g x (on g number 0 false new)) same d

-- what is held is low
pub low_opened : (g : Geometry) (given : DriveState) (old new : PortsState) (prefix base : ℕ) → MayOpen g given → old.drive ≡ given → HasRecovered g old.drive prefix base new.drive → new.faults ≡ old.faults → IsLow g new.drive (2 ^ 62 + 4096 * 0) (2 ^ 62 + 0)
low_opened g given old new prefix base may same whole faults =
    let low : IsLow g given (2 ^ 62 + 4096 * 0) (2 ^ 62 + 0) = record { rung = may.rung; shown = may.shown } in
    low_apart g may.one old new prefix base whole faults (2 ^ 62 + 4096 * 0) (2 ^ 62 + 0) (subst (λ (x : DriveState). IsLow g x (2 ^ 62 + 4096 * 0) (2 ^ 62 + 0)) (sym same) low)

given_back : (g : Geometry) (e : RecoverRefusal) (old new : DriveState) → IsCutShort g e old new → AreBoundsKept g old new → IsGivenBack g old new
given_back g e old new cut bounds = record {
  bounds = bounds;
  ds = cut.ds;
  read = reaches_of g old cut.ds cut.top cut.read;
  images = from_recovery g old cut.ds cut.top new cut.stands;
}

pub open_refused : (A : Type 0) (g : Geometry) (e : RecoverRefusal) (old new : DriveState) (P : ImageFault → Type 0) → OnImage {A = A} (Err e) (λ fault. (new ≡ old) × P fault) → OnDrive {A = A} (Err e) (λ x. IsCutShort g x old new) → AreBoundsKept g old new → IsOpenRefused g old e new
open_refused A g (recovery.Image fault) old new P image cut bounds = image.0
open_refused A g recovery.Off old new P image cut bounds = given_back g recovery.Off old new cut bounds
open_refused A g (recovery.Failed block status) old new P image cut bounds = given_back g (recovery.Failed block status) old new cut bounds
