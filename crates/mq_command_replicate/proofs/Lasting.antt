-- Where the power of the ports never ends, and none of their commands is to fail, no port has a fault: so an
-- opening and an offer are refused for memory alone.
use Rattle.std.proofs.Common.{◌≡◌, ◌⊎◌, inl, inr, ◌<◌, ℕ, zero, suc, ◌++◌, List, [], ◌∷◌, length, map, get_or, get_or-set_same, replicate, Option, Some, None, Err, refl, sym, ◌∙◌, ap, subst, arith}
use Rattle.std.proofs.Math.Logic.{∥∥₁_elim}
use Rattle.std.proofs.lemmas.Bool.{false≢true}
use Rattle.std.proofs.lemmas.List.{length-map}
use Rattle.mq_blocks.specs.Drive.{IsBoundKept, PortState}
use Rattle.mq_blocks.specs.Geometry.{home_lba, zone_of}
use Rattle.mq_blocks.specs.declared.geometry.Geometry.{Geometry}
use Rattle.mq_blocks.proofs.Options.{none-of}
use Rattle.mq_drive.specs.Emu.{emu_faults, emu_state}
use Rattle.mq_drive.specs.Failures.{errors_of}
use Rattle.mq_drive.specs.Limits.{fails_by}
use Rattle.mq_drive.specs.Steps.{HomeError, PortFault, PowerOff}
use Rattle.mq_drive.specs.declared.emu.EmuPort.{EmuPort}
use Rattle.mq_drive.specs.declared.port.Port.{Ghosts}
use Rattle.mq_drive.specs.declared.port.Ports.{Ports}
use Rattle.mq_ledger.specs.History.{blocks_of}
use Rattle.mq_ledger.specs.State.{port_at}
use Rattle.mq_queue_side.specs.Drained.{Rises}
use Rattle.mq_queue_side.proofs.DrainedCompletes.{gains_rises}
use Rattle.mq_recover.specs.Drives.{AreBoundsKept, DriveFaults, DriveState, drive_of, faults_on}
use Rattle.mq_recover.specs.Images.{IsReadableImage, RefusesImage}
use Rattle.mq_recover.specs.RecoverCauses.{HasDriveCause, OneGains}
use Rattle.mq_recover.specs.declared.refusal.ImageFault.{ImageFault}
use Rattle.mq_recover.specs.declared.refusal.ImageFault.TheVariants as fault
use Rattle.mq_recover.specs.declared.refusal.RecoverRefusal.{RecoverRefusal}
use Rattle.mq_recover.specs.declared.refusal.RecoverRefusal.TheVariants as recovery
use Rattle.mq_recover.proofs.DrivesImages.{image-refused}
use Rattle.mq_replica.specs.Applying.{HaveRisen, faults_at}
use Rattle.mq_replica.specs.Held.{IsKeeping, IsReady, drive_in, faults_in, replica_of}
use Rattle.mq_replica.specs.Offers.{IsOpenRefused, IsStopped, Offers, ReplicaState, opening_limit}
use Rattle.mq_replica.specs.Updates.{AreBelow, AreWritesFit, IsFirstNotBelow, last_home}
use Rattle.mq_replica.specs.Views.{below, faults_below}
use Rattle.mq_replica.specs.declared.certain.CertainPort.{CertainPort}
use Rattle.mq_replica.specs.declared.held.Held.{Held}
use Rattle.mq_replica.specs.declared.held.Held.TheVariants.{Opened, Apart, Stopped}
use Rattle.mq_replica.specs.declared.update.OfferRefusal.{OfferRefusal}
use Rattle.mq_replica.specs.declared.update.OfferRefusal.TheVariants as offer
use Rattle.mq_replica.specs.declared.update.Update.{Update}
use Rattle.mq_command_replicate.specs.Feeds.{HasUpdate}
use Rattle.mq_command_replicate.specs.Lasting.{IsFollowing, IsLasting, IsPortLasting}
use Rattle.mq_command_replicate.specs.Updates.{IsReplicaGeometry}

-- ---- what lasts goes on lasting

kept_lasting : (old new : PortState) → IsBoundKept old new → IsPortLasting old → IsPortLasting new
kept_lasting old new kept lasts = (ap (λ f. f.limit) kept.fuse ∙ lasts.0, kept.fail ∙ lasts.1)

pub still_lasting : (g : Geometry) (old new : DriveState) → AreBoundsKept g old new → IsLasting g old → IsLasting g new
still_lasting g old new kept lasts = record {
  queues = λ q low. kept_lasting (port_at old.queues q) (port_at new.queues q) (kept.queues q low) (lasts.queues q low);
  root = kept_lasting old.root new.root kept.root lasts.root;
}

pub still_following : (old : ReplicaState) (u : Update) (new : ReplicaState) → IsFollowing old → HasUpdate old u new → IsFollowing new
still_following old u new is has = record {
  geometry_is = subst IsReplicaGeometry (sym has.geometry) is.geometry_is;
  lasting = subst (λ (g : Geometry). IsLasting g new.drive) (sym has.geometry) (still_lasting old.geometry old.drive new.drive has.bounds is.lasting);
  stopped = has.stopped;
}

-- ---- no port has a fault

port_sound : (p : EmuPort) → IsPortLasting (emu_state p) → emu_faults p ≡ []
port_sound p lasts =
    let failure : p.device.value.failure ≡ None = none-of p.device.value.failure (p.device.value.sound.counts.failure_counted ∙ p.device.value.failing.exact ∙ ap (λ (o : Option ℕ). fails_by o p.device.value.failing.executed) lasts.1) in
    ap (λ (n : ℕ). replicate n PowerOff ++ errors_of p.device.value.failure) (p.device.value.power.unlimited lasts.0) ∙ ap errors_of failure

never_rises : (old new : List PortFault) → new ≡ [] → Rises old new → ⊥
never_rises old new none rises =
    let n : length new ≡ 0 = ap length none in
    let low = rises.0 in
    elim rises.1 [
      | inl more ↦ absurd (omega (arith, n, more))
      | inr full ↦ absurd (omega (arith, n, low, full))
    ]

-- so none of a replica's has more
module _ {G : Ghosts EmuPort} where
  abbrev S : CertainPort EmuPort G → PortState
  S = below emu_state

  abbrev F : CertainPort EmuPort G → List PortFault
  F = faults_below emu_faults

  listed_sound : (ps : List (CertainPort EmuPort G)) → length ps ≡ 1 → IsPortLasting (port_at (map S ps) 0) → (q : ℕ) → get_or (map F ps) q [] ≡ []
  listed_sound [] e lasts q = refl
  listed_sound (p ∷ []) e lasts zero = port_sound p.port lasts
  listed_sound (p ∷ []) e lasts (suc q) = refl
  listed_sound (p ∷ r ∷ ps) e lasts q = absurd (omega (arith, e))

  ports_sound : (g : Geometry) → g.queues ≡ 1 → (ports : Ports (CertainPort EmuPort G)) → length ports.queues.items ≡ 1 → IsLasting g (drive_of S ports) → (port : Option ℕ) → faults_at (faults_on F ports) port ≡ []
  ports_sound g one ports count lasts None = port_sound ports.root.port lasts.root
  ports_sound g one ports count lasts (Some q) = listed_sound ports.queues.items count (lasts.queues 0 (omega (arith, one))) q

module _ {G : Ghosts EmuPort} {H : Ghosts (CertainPort EmuPort G)} (g : Geometry) (one : g.queues ≡ 1) where
  held_sound : (held : Held (CertainPort EmuPort G) H) → IsReady S F g held → IsLasting g (drive_in S F held) → (port : Option ℕ) → faults_at (faults_in S F held) port ≡ []
  held_sound (Opened o) ready lasts None = port_sound o.root.port.port lasts.root
  held_sound (Opened o) ready lasts (Some zero) = port_sound o.side.pmr.port.port (lasts.queues 0 (omega (arith, one)))
  held_sound (Opened o) ready lasts (Some (suc q)) = refl
  held_sound (Apart ports) ready lasts port = ports_sound g one ports (sym (length-map ports.queues.items S) ∙ ready.1.count ∙ one) lasts port
  held_sound (Stopped ports) ready lasts port = ports_sound g one ports ready lasts port

  never_risen : (held : Option (Held (CertainPort EmuPort G) H)) (reached offers : ℕ) → ∥ IsKeeping S F g offers held ∥₁ → IsLasting g (replica_of S F g reached offers held).drive → (old : DriveFaults) → HaveRisen old (replica_of S F g reached offers held).faults → ⊥
  never_risen None reached offers keeping lasts old risen = ∥∥₁_elim keeping (λ a b. absurd a) (λ none. none)
  never_risen (Some held) reached offers keeping lasts old risen = ∥∥₁_elim keeping (λ a b. absurd a) (λ is. never_rises (faults_at old risen.0) (faults_at (faults_in S F held) risen.0) (held_sound held is.ready lasts risen.0) risen.1)

module _ {G : Ghosts EmuPort} {H : Ghosts (CertainPort EmuPort G)} (held : Option (Held (CertainPort EmuPort G) H)) (g : Geometry) (reached offers : ℕ) where
  abbrev state : ReplicaState
  state = replica_of (below emu_state) (faults_below emu_faults) g reached offers held

  own_geometry : (h : Option (Held (CertainPort EmuPort G) H)) → (replica_of (below emu_state) (faults_below emu_faults) g reached offers h).geometry ≡ g
  own_geometry None = refl
  own_geometry (Some x) = refl

  pub never_stopped : ∥ IsKeeping (below emu_state) (faults_below emu_faults) g offers held ∥₁ → (h : Geometry) → h.queues ≡ 1 → state.geometry ≡ h → IsLasting h state.drive → (old : DriveFaults) → HaveRisen old state.faults → ⊥
  never_stopped keeping h one same lasts old risen =
      let is : h ≡ g = sym same ∙ own_geometry held in
      never_risen g (ap (λ (x : Geometry). x.queues) (sym is) ∙ one) held reached offers keeping (subst (λ (x : Geometry). IsLasting x state.drive) is lasts) old risen

-- ---- an offer

not_first : (high block : ℕ) (bs : List ℕ) → AreBelow high bs → IsFirstNotBelow high bs block → ⊥
not_first high block [] low first = first
not_first high block (b ∷ bs) low (inl here) = let l = low.0 in let h = here.0 in absurd (omega (arith, l, h))
not_first high block (b ∷ bs) low (inr later) = not_first high block bs low.1 later.1

-- where it fits, it is refused for memory alone
module _ (old : ReplicaState) (u : Update) (is : IsFollowing old) (low : old.reached < opening_limit) (fit : AreWritesFit old.geometry u.writes) (new : ReplicaState) (sound : new.geometry ≡ old.geometry → IsLasting old.geometry new.drive → (faults : DriveFaults) → HaveRisen faults new.faults → ⊥) where
  never_cut : IsStopped old u new → ⊥
  never_cut cut = sound cut.offered.geometry (still_lasting old.geometry old.drive new.drive cut.offered.bounds is.lasting) old.faults cut.risen

  pub only_memory_offered : (e : OfferRefusal) → Offers old u (Err e) new → e ≡ offer.OutOfMemory
  only_memory_offered offer.OutOfMemory offers = refl
  only_memory_offered offer.Off offers = absurd (never_cut offers.1.1)
  only_memory_offered (offer.Failed status) offers = absurd (never_cut offers.1.1)
  only_memory_offered offer.Stopped offers = absurd (false≢true (sym is.stopped ∙ offers.1.0))
  only_memory_offered offer.Limit offers = absurd (let high = offers.1.0.1 in omega (arith, low, high))
  only_memory_offered (offer.Range block) offers = absurd (not_first (last_home old.geometry) block (blocks_of u.writes) fit.below offers.1.0.2)
  only_memory_offered (offer.TooLarge count limit) offers =
      let r = offers.1.0 in
      let few = fit.few in
      let more = r.3 in
      let c = r.4 in
      let l = r.5 in
      absurd (omega (arith, few, more, c, l))

-- ---- an opening

first_sound : (ps : List EmuPort) → IsPortLasting (port_at (map emu_state ps) 0) → get_or (map emu_faults ps) 0 [] ≡ []
first_sound [] lasts = refl
first_sound (p ∷ ps) lasts = port_sound p lasts

module _ (g : Geometry) (one : g.queues ≡ 1) (old : DriveFaults) (count : length old.queues ≡ 1) (back : Ports EmuPort) (lasts : IsLasting g (drive_of emu_state back)) where
  never_gains : (z : Option ℕ) (f : PortFault) → OneGains z f old (faults_on emu_faults back) → ⊥
  never_gains None f gains = never_rises old.root (emu_faults back.root) (port_sound back.root lasts.root) (gains_rises f old.root (emu_faults back.root) gains.1)
  never_gains (Some q) f gains =
      let low = gains.0 in
      let first : q ≡ 0 = omega (arith, low, count) in
      let now : get_or (map emu_faults back.queues.items) q [] ≡ gains.1 = ap (λ (l : List (List PortFault)). get_or l q []) gains.3 ∙ get_or-set_same old.queues q gains.1 [] low in
      let sound : get_or (map emu_faults back.queues.items) q [] ≡ [] = subst (λ (k : ℕ). get_or (map emu_faults back.queues.items) k [] ≡ []) (sym first) (first_sound back.queues.items (lasts.queues 0 (omega (arith, one)))) in
      never_rises (get_or old.queues q []) gains.1 (sym now ∙ sound) (gains_rises f (get_or old.queues q []) gains.1 gains.2)

-- where the image is readable, it is refused for memory alone
pub only_memory_opened : (g : Geometry) (old back : Ports EmuPort) (e : RecoverRefusal) → g.queues ≡ 1 → length (map emu_state old.queues.items) ≡ g.queues → IsReadableImage g (drive_of emu_state old) → IsLasting g (drive_of emu_state old)
    → IsOpenRefused g (drive_of emu_state old) e (drive_of emu_state back) → ((f : ImageFault) → e ≡ recovery.Image f → (f ≡ fault.OutOfMemory) ⊎ RefusesImage g (drive_of emu_state old) f)
    → HasDriveCause {A = Unit {0}} g (Err e) (faults_on emu_faults old) (faults_on emu_faults back) → e ≡ recovery.Image fault.OutOfMemory
only_memory_opened g old back (recovery.Image f) one count readable lasts refused image cause = elim (image f refl) [
  | inl same ↦ ap (λ (x : ImageFault). recovery.Image x) same
  | inr refuses ↦ absurd (image-refused g (drive_of emu_state old) f readable refuses)
]
only_memory_opened g old back recovery.Off one count readable lasts refused image cause =
    absurd (never_gains g one (faults_on emu_faults old) (length-map old.queues.items emu_faults ∙ sym (length-map old.queues.items emu_state) ∙ count ∙ one) back (still_lasting g (drive_of emu_state old) (drive_of emu_state back) refused.bounds lasts) cause.0 PowerOff cause.1)
only_memory_opened g old back (recovery.Failed block status) one count readable lasts refused image cause =
    absurd (never_gains g one (faults_on emu_faults old) (length-map old.queues.items emu_faults ∙ sym (length-map old.queues.items emu_state) ∙ count ∙ one) back (still_lasting g (drive_of emu_state old) (drive_of emu_state back) refused.bounds lasts) (zone_of g block) (HomeError (home_lba g block) status) cause)
