-- What a recovery of a replica's ports, whole or cut short, leaves of them.
use Rattle.std.proofs.Common.{◌≡◌, ◌⊎◌, ℕ, ◌+◌, ◌≤◌, List, [], ◌∷◌, length, refl, sym, ap, subst, ◌∙◌, arith, inl, inr, Option, Some, None, Err, get_or, get_or-set_same}
use Rattle.std.proofs.lemmas.Bool.{cases_lt, le-ltb, lt-ltb}
use Rattle.mq_blocks.proofs.DescriptorLimits.{limit-fits, limit-high}
use Rattle.mq_blocks.specs.Descriptor.{Descriptor, further_for}
use Rattle.mq_blocks.specs.Drive.{PortState}
use Rattle.mq_blocks.specs.Geometry.{write_limit}
use Rattle.mq_blocks.specs.Journal.{stands}
use Rattle.mq_blocks.specs.Machine.{Writes}
use Rattle.mq_blocks.specs.declared.geometry.Geometry.{Geometry}
use Rattle.mq_drive.specs.Steps.{PortFault}
use Rattle.mq_ledger.specs.State.{port_at}
use Rattle.mq_queue_side.specs.Commits.{descriptor_size}
use Rattle.mq_queue_side.specs.Drained.{Rises}
use Rattle.mq_queue_side.specs.Stored.{FitsArea, FitsRing, Row, next_in}
use Rattle.mq_revoke.specs.Placed.{Placed}
use Rattle.mq_queue_side.proofs.DrainedCompletes.{gains_rises}
use Rattle.mq_recover.specs.Drives.{AreBoundsKept, DriveFaults, DriveState, IsQuiescentDrive, drive, view_over}
use Rattle.mq_recover.specs.Events.{recovery_events}
use Rattle.mq_recover.specs.RecoverCauses.{HasDriveCause, OnDrive, OneGains}
use Rattle.mq_recover.specs.Recovery.{IsReadPrefix, IsStartDrive}
use Rattle.mq_recover.specs.Recovery as recovery
use Rattle.mq_recover.specs.Steps.{HasRecovered, IsCutShort}
use Rattle.mq_recover.specs.declared.refusal.RecoverRefusal.{RecoverRefusal}
use Rattle.mq_replica.specs.Apart.{IsLow}
use Rattle.mq_replica.specs.Applying.{HaveRisen, IsCutOff, IsSaved, PortsState}
use Rattle.mq_replica.specs.Contents.{AreSame, Contents, with_writes}
use Rattle.mq_replica.specs.Images.{StandsFor, StandsForEither}
use Rattle.mq_replica.specs.Opened.{IsOpened, OpenedState, drive_over}
use Rattle.mq_replica.specs.Opening.{IsFreshOpened}
use Rattle.mq_replica.proofs.Reopened.{fresh_opened, fresh_top}
use Rattle.mq_replica.proofs.Rings.{events_ring}
use Rattle.mq_replica.proofs.Served.{always_more}
use Rattle.mq_replica.proofs.Standing.{from_recovery, own_image, reaches_of, stands_same}

-- what stood is what stands, where each image of what is left stands for it
stands_on : (g : Geometry) (old new : DriveState) (ds : List Descriptor) (top : ℕ) → IsReadPrefix g (view_over g old) ds top → recovery.StandsAs g old ds top new → (c : Contents) → StandsFor g old c → StandsFor g new c
stands_on g old new ds top read is c stands_for =
    stands_same g new (stands g (view_over g old) ds) c (λ x low. sym ((stands_for old (own_image g old)).are ds (reaches_of g old ds top read) x low)) (from_recovery g old ds top new is)

either_on : (g : Geometry) (d : DriveState) (c : Contents) (ws : Writes) → StandsFor g d c → StandsForEither g d c (with_writes ws c)
either_on g d c ws is = always_more g d (AreSame g c) (λ f. ∥ AreSame g c f ⊎ AreSame g (with_writes ws c) f ∥₁) (λ f same. ∣ inl same ∣₁) is

further_low : (n : ℕ) → further_for n ≤ 1
unfolding further_for
further_low n = elim (cases_lt 1010 n) [
  | inl l ↦ rw (lt-ltb 1010 n l) (omega arith)
  | inr l ↦ rw (le-ltb 1010 n l) (omega arith)
]

pub size_low : (logged revoked : ℕ) → descriptor_size logged revoked ≤ 2
size_low logged revoked = (let l = further_low (logged + revoked) in omega (arith, l))

-- ---- faults

risen : (z : Option ℕ) (f : PortFault) (old new : DriveFaults) → OneGains z f old new → HaveRisen old new
risen None f old new gains = (None, gains_rises f old.root new.root gains.1)
risen (Some q) f old new (low, faults, gains, is, root) =
    let now : get_or new.queues q [] ≡ faults = ap (λ (l : List (List PortFault)). get_or l q []) is ∙ get_or-set_same old.queues q faults [] low in
    (Some q, subst (λ (l : List PortFault). Rises (get_or old.queues q []) l) (sym now) (gains_rises f (get_or old.queues q []) faults gains))

pub cut_off : (g : Geometry) (z : Option ℕ) (fault : PortFault) (e : RecoverRefusal) (old new : PortsState) → IsCutShort g e old.drive new.drive → OneGains z fault old.faults new.faults → AreBoundsKept g old.drive new.drive → (ws : Writes) → IsCutOff g ws old new
cut_off g z fault e old new cut gains bounds ws = record {
  risen = risen z fault old.faults new.faults gains;
  bounds = bounds;
  stands = λ c is. either_on g new.drive c ws (stands_on g old.drive new.drive cut.ds cut.top cut.read cut.stands c is);
}

-- ---- a whole recovery

module _ (g : Geometry) (one : g.queues ≡ 1) (old new : PortsState) (prefix base : ℕ) (whole : HasRecovered g old.drive prefix base new.drive) (same : new.faults ≡ old.faults) where
  pub rings_same : (port_at new.drive.queues 0).rings ≡ (port_at old.drive.queues 0).rings
  rings_same = ap (λ (d : DriveState). (port_at d.queues 0).rings) whole.events ∙ events_ring g old.drive (recovery_events old.drive whole.writes base)

  pub saved : AreBoundsKept g old.drive new.drive → IsSaved g old new
  saved bounds = record {
    faults = same;
    bounds = bounds;
    stands = stands_on g old.drive new.drive whole.ds base whole.read whole.stands;
    entries = (whole.recovered.heads 0 (omega (arith, one))).doorbell;
    rings = rings_same;
  }

  pub head_at : (port_at new.drive.queues 0).head ≡ (port_at new.drive.queues 0).doorbell
  head_at = (whole.recovered.heads 0 (omega (arith, one))).head

  pub base_low : (doorbell top : ℕ) → IsLow g old.drive doorbell top → ((port_at new.drive.queues 0).doorbell ≤ doorbell) × (base ≤ top)
  base_low doorbell top low = ((let e = (whole.recovered.heads 0 (omega (arith, one))).doorbell in let l = low.rung in omega (arith, e, l)), low.shown whole.ds base whole.read)

  -- opened over what it left
  pub opened_over : (v : OpenedState) → drive_over v ≡ new.drive → IsFreshOpened g base v → IsOpened g v
  opened_over v at fresh =
      let still : IsQuiescentDrive g (drive_over v) = subst (λ (d : DriveState). IsQuiescentDrive g d) (sym at) whole.recovered.still in
      let begin : IsStartDrive g (drive_over v) = subst (λ (d : DriveState). IsStartDrive g d) (sym at) whole.start in
      let based : v.root.base ≡ base = ap (λ (d : DriveState). d.root.base) at ∙ whole.recovered.base in
      let head : v.side.port.head ≡ v.side.port.doorbell = subst (λ (d : DriveState). (port_at d.queues 0).head ≡ (port_at d.queues 0).doorbell) (sym at) head_at in
      fresh_opened g v.side.port v.root one begin v refl refl fresh.rows (fresh.number ∙ sym based) fresh.fresh fresh.geometry fresh.queue head (record { quiet = still.root; ringless = still.ringless })

  -- or left apart
  single : (xs : List PortState) → length xs ≡ 1 → xs ≡ port_at xs 0 ∷ []
  single [] e = absurd (omega (arith, e))
  single (x ∷ []) e = refl
  single (x ∷ y ∷ xs) e = absurd (omega (arith, e))

  pub low_apart : (doorbell top : ℕ) → IsLow g old.drive doorbell top → IsLow g new.drive doorbell top
  low_apart doorbell top low =
      let both = base_low doorbell top low in
      let at : drive (port_at new.drive.queues 0 ∷ []) new.drive.root ≡ new.drive = λ i. drive (sym (single new.drive.queues (whole.recovered.still.count ∙ one)) i) new.drive.root in
      let begin = subst (λ (d : DriveState). IsStartDrive g d) (sym at) whole.start in
      record {
        rung = both.0;
        shown = λ ds n read.
            let l = fresh_top g (port_at new.drive.queues 0) new.drive.root one begin whole.recovered.still.root.quiet.base ds n (subst (λ (d : DriveState). IsReadPrefix g (view_over g d) ds n) (sym at) read) in
            let b = whole.recovered.base in
            omega (arith, l, b, both.1);
      }

pub along : (g : Geometry) (old new later : PortsState) → later ≡ new → IsSaved g old new → IsSaved g old later
along g old new later same saved = subst (λ (p : PortsState). IsSaved g old p) (sym same) saved

-- ---- room

-- a fresh side has room for the greatest transaction
pub fits_area : (g : Geometry) (base : ℕ) (rows : List Row) (plan : Placed) → rows ≡ [] → length plan.logged ≤ write_limit g → plan.revoked ≡ [] → FitsArea g.area base rows plan
fits_area g base rows plan none few plain =
    let at : next_in rows ≡ 0 = ap next_in none in
    let size : descriptor_size (length plan.logged) (length plan.revoked) ≤ 2 = size_low (length plan.logged) (length plan.revoked) in
    let l = limit-fits g in
    omega (arith, at, size, few, l)

pub fits_ring : (g : Geometry) (p : PortState) (plan : Placed) → p.pending ≡ [] → p.head ≡ p.doorbell → length plan.logged ≤ write_limit g → plan.direct ≡ [] → FitsRing p plan
fits_ring g p plan none head few plain =
    let empty : length p.pending ≡ 0 = ap length none in
    let direct : length plan.direct ≡ 0 = ap length plain in
    let size : descriptor_size (length plan.logged) (length plan.revoked) ≤ 2 = size_low (length plan.logged) (length plan.revoked) in
    let l = limit-high g in
    omega (arith, empty, head, direct, size, few, l)

-- ---- a refusal, by what it is

pub on_is : (A : Type 0) (e f : RecoverRefusal) (P : RecoverRefusal → Type 0) → e ≡ f → OnDrive {A = A} (Err e) P → OnDrive {A = A} (Err f) P
on_is A e f P is holds = subst (λ (x : RecoverRefusal). OnDrive {A = A} (Err x) P) is holds

pub cause_is : (A : Type 0) (g : Geometry) (e f : RecoverRefusal) (old new : DriveFaults) → e ≡ f → HasDriveCause {A = A} g (Err e) old new → HasDriveCause {A = A} g (Err f) old new
cause_is A g e f old new is holds = subst (λ (x : RecoverRefusal). HasDriveCause {A = A} g (Err x) old new) is holds
