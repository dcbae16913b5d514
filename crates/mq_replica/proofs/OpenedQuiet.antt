-- The ports of an open replica, as its values show them.
use Rattle.std.proofs.Common.{◌≡◌, ℕ, ◌≤◌, true, List, [], ◌∷◌, refl, sym, ap, subst, arith, Option, Some, None, Err, is_none}
use Rattle.std.proofs.Math.Logic.{∥∥₁_elim}
use Rattle.std.proofs.Props.{props}
use Rattle.std.proofs.lemmas.Bool.{false≢true}
use Rattle.mq_blocks.specs.Machine.{Writes}
use Rattle.mq_blocks.specs.declared.geometry.Geometry.{Geometry}
use Rattle.mq_drive.specs.Start.{IsPortOf}
use Rattle.mq_drive.specs.Steps.{PortFault}
use Rattle.mq_drive.specs.declared.role.Role.TheVariants.{Queue}
use Rattle.mq_queue_side.specs.Drained.{Rises}
use Rattle.mq_queue_side.specs.declared.answers.Cause.{Cause}
use Rattle.mq_queue_side.specs.declared.answers.Cause.TheVariants as cause
use Rattle.mq_recover.specs.Drives.{DriveState, IsQuiescentDrive, IsQuiescentPort}
use Rattle.mq_replica.specs.Apart.{IsLow}
use Rattle.mq_replica.specs.Applying.{HaveRisen, IsCutOff, IsSaved, Leaves, PortsState}
use Rattle.mq_replica.specs.Certain.{HasOneBase, IsCertainUnlessFailed}
use Rattle.mq_replica.specs.Committing.{CommitCause, refusal_by}
use Rattle.mq_replica.specs.Contents.{Contents}
use Rattle.mq_replica.specs.Images.{StandsForEither}
use Rattle.mq_replica.specs.Opened.{IsOpened, OpenedState, drive_over}
use Rattle.mq_replica.proofs.Bounds.{bounds_same}
use Rattle.mq_replica.proofs.OpenedStands.{opened_top}
use Rattle.mq_replica.proofs.Propositions.{quiet_drive-prop}
use Rattle.mq_replica.proofs.Quiets.{quiet}

-- the queue's port and the root's have one image each
pub quiet_opened : (g : Geometry) (v : OpenedState) → IsOpened g v → IsPortOf v.side.geometry (Queue v.side.queue) v.side.port → IsCertainUnlessFailed v.side.port → HasOneBase v.side.port → IsQuiescentDrive g (drive_over v)
quiet_opened g v o own certain base =
    let j = o.journal in
    let own' : IsPortOf g (Queue 0) v.side.port = subst (λ (h : Geometry). IsPortOf h (Queue 0) v.side.port) j.side.geometry (subst (λ (q : ℕ). IsPortOf v.side.geometry (Queue q) v.side.port) j.side.queue own) in
    let one : IsQuiescentPort g (Queue 0) v.side.port = record { port = own'; quiet = quiet g v o certain base } in
    record {
      count = sym j.one;
      each = λ q low. (let z : q ≡ 0 = (let e = j.one in omega (arith, low, e)) in subst (λ (r : ℕ). IsQuiescentPort g (Queue r) (Rattle.mq_ledger.specs.State.port_at (v.side.port ∷ []) r)) (sym z) one);
      root = j.idle.quiet;
      ringless = j.idle.ringless;
    }

pub quiet_known : (g : Geometry) (v : OpenedState) → ∥ IsOpened g v ∥₁ → IsPortOf v.side.geometry (Queue v.side.queue) v.side.port → IsCertainUnlessFailed v.side.port → HasOneBase v.side.port → IsQuiescentDrive g (drive_over v)
quiet_known g v o own certain base = ∥∥₁_elim o (quiet_drive-prop g (drive_over v)) (λ is. quiet_opened g v is own certain base)

pub low_opened : (g : Geometry) (v : OpenedState) (doorbell top : ℕ) → IsOpened g v → v.side.port.doorbell ≤ doorbell → v.number ≤ top → IsLow g (drive_over v) doorbell top
low_opened g v doorbell top o rung high = record {
  rung = rung;
  shown = λ ds n read. (let l = opened_top g v o ds n read in omega (arith, l, high));
}

low-prop : (g : Geometry) (d : DriveState) (doorbell top : ℕ) → IsProp (IsLow g d doorbell top)
low-prop g d doorbell top = Prim.hlevel props

pub low_known : (g : Geometry) (v : OpenedState) (doorbell top : ℕ) → ∥ IsOpened g v ∥₁ → v.side.port.doorbell ≤ doorbell → v.number ≤ top → IsLow g (drive_over v) doorbell top
low_known g v doorbell top o rung high = ∥∥₁_elim o (low-prop g (drive_over v) doorbell top) (λ is. low_opened g v doorbell top is rung high)

pub saved_same : (g : Geometry) (old new : PortsState) → new ≡ old → IsSaved g old new
saved_same g old new same = record {
  faults = ap (λ (p : PortsState). p.faults) same;
  bounds = bounds_same g old.drive new.drive (ap (λ (p : PortsState). p.drive) same);
  stands = λ c stands. subst (λ (p : PortsState). Rattle.mq_replica.specs.Images.StandsFor g p.drive c) (sym same) stands;
  entries = ap Rattle.mq_replica.specs.Applying.doorbell_on same;
  rings = ap Rattle.mq_replica.specs.Applying.rings_on same;
}

pub none_of : {A : Type 0} (o : Option A) → is_none o ≡ true → o ≡ None
none_of None is = refl
none_of (Some x) is = absurd (false≢true is)

pub either-prop : (g : Geometry) (d : DriveState) (a b : Contents) → IsProp (StandsForEither g d a b)
either-prop g d a b = Prim.hlevel props

-- ---- causes

pub risen_by : (c : Cause) (f k : List PortFault) → CommitCause (Err c) f k → Rises f k
risen_by cause.Off f k is = is
risen_by (cause.Failed tx status) f k is = is
risen_by (cause.FailedHome block status) f k is = absurd is
risen_by (cause.Stopped tx w) f k is = absurd is

pub leaves_by : (g : Geometry) (ws : Writes) (old new : PortsState) (c : Cause) (f k : List PortFault) → CommitCause (Err c) f k → IsCutOff g ws old new → Leaves g ws old (refusal_by c) true new
leaves_by g ws old new cause.Off f k is left = (refl, left)
leaves_by g ws old new (cause.Failed tx status) f k is left = (refl, left)
leaves_by g ws old new (cause.FailedHome block status) f k is left = absurd is
leaves_by g ws old new (cause.Stopped tx w) f k is left = absurd is
