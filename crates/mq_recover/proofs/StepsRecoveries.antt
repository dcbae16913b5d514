-- A whole recovery of an image, and one that the drive cut short.
use Rattle.std.proofs.Common.{◌≡◌, ◌≢◌, ◌<◌, ◌≤◌, inl, inr, ⊎_elim, ℕ, zero, suc, ◌+◌, Bool, true, false, List, [], ◌∷◌, ◌++◌, length, take, map, Option, Some, None, IsNone, set, refl, sym, ◌∙◌, ap, subst, arith, append_assoc}
use Rattle.std.proofs.lemmas.Bool.{ne_eqb}
use Rattle.std.proofs.lemmas.List.{take_all, length-map, get_or-map}
use Rattle.std.specs.Prelude.{nat_eq, if◌then◌else◌, Result, Ok, Err}
use Rattle.mq_blocks.specs.Blocks.{block_at}
use Rattle.mq_blocks.specs.Descriptor.{Descriptor, AreRising}
use Rattle.mq_blocks.specs.Drive.{FuseName, PortState, PortImage, IsImage, IsQuiescent, image_of, after_begin, after_end, after_flush, after_store_base, after_store_head}
use Rattle.mq_blocks.specs.Geometry.{homes_of, home_lba, zone_of}
use Rattle.mq_blocks.specs.Journal.{or_else, stands}
use Rattle.mq_blocks.specs.Machine.{Writes}
use Rattle.mq_blocks.specs.declared.geometry.Geometry.{Geometry}
use Rattle.mq_ledger.specs.Sides.{home_index}
use Rattle.mq_ledger.specs.State.{no_port, port_at}
use Rattle.mq_drive.specs.Start.{IsPortOf}
use Rattle.mq_drive.specs.declared.role.Role.TheVariants.{Queue, Root}
use Rattle.mq_recover.specs.Drives.{DriveState, ArePorts, IsQuiescentDrive, AreImages, AreBoundsKept, drive, view_over}
use Rattle.mq_recover.specs.RecoverCauses.{OnDrive, UnlessImage}
use Rattle.mq_recover.specs.RecoverHomes.{AreBelow, CanMove, AreCutMoves, after_raise, after_move, IsCutRaise}
use Rattle.mq_recover.specs.Copies.{copy_of, content_of}
use Rattle.mq_recover.specs.Recovery.{IsReadPrefix}
use Rattle.mq_recover.specs.Recovering.{AreHeadsLow, HasStopped, HasWritten, IsRecovered}
use Rattle.mq_recover.specs.Images.{IsReadableImage}
use Rattle.mq_recover.specs.Events.{Event, BeginHome, EndHome, StoreBase, FlushBase, StoreHead, FlushHead, at_home, after_event, after_events, home_events, base_events, heads_events, recovery_events, AreHomeWrites, StopsAt}
use Rattle.mq_recover.specs.Steps.{HasRecovered, IsCutShort, IsAgain}
use Rattle.mq_recover.specs.declared.refusal.RecoverRefusal.{RecoverRefusal}
use Rattle.mq_recover.specs.declared.refusal.RecoverRefusal.TheVariants.{Image, Off, Failed}
use Rattle.mq_recover.proofs.RecoveryCutImages.{IsSameLog, read-raised}
use Rattle.mq_recover.proofs.DrivesImages.{read-same, read-readable}
use Rattle.mq_recover.proofs.RecoverCopies.{stands-copy}
use Rattle.mq_recover.proofs.StepsCuts.{each-stage}
use Rattle.mq_recover.proofs.StepsEvents.{after-then, events-ports, stops-more, off-after}
use Rattle.mq_recover.proofs.RecoverHomes.{IsBetween, between-start, between-end, between-ports, later-quiet}
use Rattle.mq_recover.proofs.DrivesStages.{IsStage, same-log, stage-stands}
use Rattle.mq_recover.proofs.RecoveryStarts.{starts}
use Rattle.mq_recover.proofs.StepsWords.{raised, IsMoved, moved, moved-events, cut-moves, heads-same}
use Rattle.mq_recover.proofs.DrivesZones.{IsZone, port_in, home_in, zone-is, still-in, still-ports, at-count, image-at, view-home}
use Rattle.mq_recover.specs.Choices.{IsFoundIn}
use Rattle.mq_recover.specs.declared.choice.Found.{Found}
use Rattle.mq_recover.proofs.RecoveringDrives.{events-fixed, stops-some, writes-below}

-- ---- what is found is good to recover from

-- the heads of a readable image are not above their doorbells
pub heads-low : (g : Geometry) (s : DriveState) (ds : List Descriptor) (top : ℕ) → IsReadPrefix g (view_over g s) ds top → AreHeadsLow g s
heads-low g s ds top read = λ q own.
    let seen_head : (view_over g s).head q ≡ (port_at s.queues q).head = ap (λ (i : PortImage). i.head) (image-at s.queues q) in
    let seen_bell : (view_over g s).doorbell q ≡ (port_at s.queues q).doorbell = ap (λ (i : PortImage). i.doorbell) (image-at s.queues q) in
    let order = (read.whole.each q own).order in
    omega (arith, seen_head, seen_bell, order)

-- the base is not above the greatest number
pub top-low : (g : Geometry) (s : DriveState) (ds : List Descriptor) (top : ℕ) → IsReadPrefix g (view_over g s) ds top → s.root.base ≤ top
top-low g s ds top read = read.top_is.greatest s.root.base (record { where_from = inl refl })

-- ---- cut short

cut-short : (g : Geometry) (e : RecoverRefusal) (s n : DriveState) (ds : List Descriptor) (top : ℕ) → IsQuiescentDrive g s → IsReadPrefix g (view_over g s) ds top → HasStopped g e s ds top n → IsCutShort g e s n
cut-short g e s n ds top still read stopped =
    let all : Writes = stopped.writes in
    let below = writes-below g s ds all stopped.home_writes in
    let some = stops-some g e s n (recovery_events s all top) stopped.events in
    let stage : IsStage g s n all top = subst (λ (m : DriveState). IsStage g s m all top) (sym some.1) (each-stage g s all top some.0 still below) in
    record {
      ds = ds;
      top = top;
      read = read;
      writes = all;
      home_writes = stopped.home_writes;
      events = stopped.events;
      ports = stopped.ports;
      stands = stage-stands g s n ds top all still read stopped.home_writes stage;
    }

cut-err : (A B : Type 0) (g : Geometry) (s n : DriveState) (ds : List Descriptor) (top : ℕ) (e : RecoverRefusal) → IsQuiescentDrive g s → IsReadPrefix g (view_over g s) ds top → OnDrive {A = B} (Err e) (λ x. HasStopped g x s ds top n)
    → OnDrive {A = A} (Err e) (λ x. IsCutShort g x s n)
cut-err A B g s n ds top (Image fault) still read stopped = tt
cut-err A B g s n ds top Off still read stopped = cut-short g Off s n ds top still read stopped
cut-err A B g s n ds top (Failed block status) still read stopped = cut-short g (Failed block status) s n ds top still read stopped

-- as the call answers it
pub cut-found : (A B : Type 0) (g : Geometry) (s n : DriveState) (ds : List Descriptor) (top : ℕ) (result : Result A RecoverRefusal) (e : RecoverRefusal) → IsQuiescentDrive g s → IsReadPrefix g (view_over g s) ds top → result ≡ Err e
    → OnDrive {A = B} (Err e) (λ x. HasStopped g x s ds top n) → OnDrive result (λ x. IsCutShort g x s n)
cut-found A B g s n ds top result e still read is stopped =
    subst (λ (r : Result A RecoverRefusal). OnDrive r (λ x. IsCutShort g x s n)) (sym is) (cut-err A B g s n ds top e still read stopped)

-- ---- done

own-image : (t : PortState) → IsImage t (image_of t)
own-image t = record {
  doorbell = refl;
  head = inl refl;
  base = inl refl;
  slots_len = refl;
  slots = λ k within flushed. refl;
  blocks_len = refl;
  blocks = λ k within certain. refl;
}

pub own-images : (g : Geometry) (d : DriveState) → AreImages g d (map image_of d.queues) (image_of d.root)
own-images g d = record {
  each = λ q own. subst (IsImage (port_at d.queues q)) (sym (image-at d.queues q)) (own-image (port_at d.queues q));
  root_is = own-image d.root;
}

-- the stage at the end
pub last-stage : (g : Geometry) (s m : DriveState) (ds : List Descriptor) (top : ℕ) → IsQuiescentDrive g s → (written : HasWritten g s ds top m) → IsStage g s m written.writes top
last-stage g s m ds top still written =
    let all : Writes = written.writes in
    let events : List Event = recovery_events s all top in
    let below = writes-below g s ds all written.home_writes in
    let whole : m ≡ after_events g s (take (length events) events) = written.events ∙ ap (after_events g s) (sym (take_all (length events) events (omega arith))) in
    subst (λ (n : DriveState). IsStage g s n all top) (sym whole) (each-stage g s all top (length events) still below)

pub whole : (g : Geometry) (s m : DriveState) (ds : List Descriptor) (top prefix : ℕ) → IsQuiescentDrive g s → IsReadPrefix g (view_over g s) ds top → prefix ≡ length ds → HasWritten g s ds top m → HasRecovered g s prefix top m
whole g s m ds top prefix still read prefix_is written =
    let v = view_over g s in
    let all : Writes = written.writes in
    let recovered = written.recovered in
    let moved_head : (q : ℕ) → q < g.queues → (view_over g m).head q ≡ v.doorbell q = λ q own.
    ap (λ (i : PortImage). i.head) (image-at m.queues q) ∙ (recovered.heads q own).head ∙ (recovered.heads q own).doorbell ∙ sym (ap (λ (i : PortImage). i.doorbell) (image-at s.queues q)) in
    let stage = last-stage g s m ds top still written in
    let same : IsSameLog g v (view_over g m) = same-log g s m (map image_of m.queues) (image_of m.root) still stage.0 (own-images g m) in
    let again = read-raised g v (view_over g m) ds top same recovered.base (λ q own. inr (moved_head q own)) read in
    record {
      ds = ds;
      read = read;
      writes = all;
      home_writes = written.home_writes;
      prefix_is = prefix_is;
      events = written.events;
      recovered = recovered;
      stands = stage-stands g s m ds top all still read written.home_writes stage;
      again = again;
      begun = written.begun;
      start = starts g m top recovered.still (λ q own. (recovered.heads q own).head) again recovered.base;
    }

-- ---- the answer

-- a readable image is not refused, whatever the drive then refuses
pub unless-image : {A : Type 0} (g : Geometry) (d : DriveState) (found : Found) (result : Result A RecoverRefusal) → IsFoundIn g d found → UnlessImage result (IsReadableImage g d)
unless-image g d found (Ok x) is = read-readable g d is.ds found.recovered.base is.read
unless-image g d found (Err (Image fault)) is = tt
unless-image g d found (Err Off) is = read-readable g d is.ds found.recovered.base is.read
unless-image g d found (Err (Failed block status)) is = read-readable g d is.ds found.recovered.base is.read

-- ---- begun again

-- what a cut recovery left, recovered later: what was to be recovered
pub again-same : (g : Geometry) (e : RecoverRefusal) (old new start later : DriveState) (ds : List Descriptor) (top : ℕ) → (cut : IsCutShort g e old new) → AreImages g new (map image_of start.queues) (image_of start.root)
    → IsReadPrefix g (view_over g start) ds top → IsRecovered g start ds top later → IsAgain g old cut.ds cut.top start ds top later
again-same g e old new start later ds top cut images read recovered =
    let left = cut.stands (map image_of start.queues) (image_of start.root) images in
    let same = read-same g (view_over g start) ds left.0 top cut.top read left.1 in
    let some = stops-some g e old new (recovery_events old cut.writes cut.top) cut.events in
    record {
      recovered = record {
        still = recovered.still;
        homes = λ b below. recovered.homes b below ∙ ap (λ (l : List Descriptor). stands g (view_over g start) l b) same.0 ∙ left.3 b below;
        base = recovered.base ∙ same.1;
        heads = λ q own. record {
          head = (recovered.heads q own).head;
          doorbell =
              (recovered.heads q own).doorbell
              ∙ sym (ap (λ (i : PortImage). i.doorbell) (image-at start.queues q))
              ∙ (images.each q own).doorbell
              ∙ ap (λ (d : DriveState). (port_at d.queues q).doorbell) some.1
              ∙ ap (λ p. p.0) (events-fixed g old (take some.0 (recovery_events old cut.writes cut.top)) (Some q));
        };
      };
      base_is = same.1;
      left = ⊎_elim (λ kept. inl (kept.0, same.0 ∙ kept.1)) (λ none. inr (none.0, same.0 ∙ none.1)) left.2;
    }
