-- A whole recovery of a drive of the loose order, and one that the drive cut short.
use Rattle.std.proofs.Common.{◌≡◌, ℕ, ◌<◌, ◌≤◌, List, [], map, take, Option, Some, None, refl, sym, ap, subst, ◌∙◌, inl, inr, ⊎_elim}
use Rattle.std.specs.Prelude.{◌⊎◌, Result, Ok, Err}
use Rattle.mq_blocks.specs.Descriptor.{Descriptor}
use Rattle.mq_blocks.specs.Drive.{PortImage, PortState, image_of}
use Rattle.mq_blocks.specs.Geometry.{homes_of}
use Rattle.mq_blocks.specs.Journal.{AreWhole, IsTop, Shown, or_else, shown, stands}
use Rattle.mq_blocks.specs.Machine.{Writes}
use Rattle.mq_blocks.specs.declared.geometry.Geometry.{Geometry}
use Rattle.mq_ledger.proofs.Written.{entries_read}
use Rattle.mq_ledger.specs.State.{IsStartPort, port_at}
use Rattle.mq_ledger.specs.Written.{journal_entries}
use Rattle.mq_loose_order.proofs.FormSound.{loose-sound}
use Rattle.mq_loose_order.specs.Form.{loose_form}
use Rattle.mq_loose_order.specs.Standing.{AreFalling, AreMet, AreStanding}
use Rattle.mq_nvme.specs.Says.{journal_reading}
use Rattle.mq_recover.proofs.DrivesStages.{IsLeftNew, IsLeftOld, IsStage, same-log, stage-left}
use Rattle.mq_recover.proofs.DrivesZones.{image-at}
use Rattle.mq_recover.proofs.RecoverCopies.{stands-copy}
use Rattle.mq_recover.proofs.RecoveringDrives.{events-fixed, stops-some, writes-below}
use Rattle.mq_recover.proofs.RecoveryCutImages.{IsSameLog, stands-along, top-along, top-raised}
use Rattle.mq_recover.proofs.RecoveryStarts.{starts}
use Rattle.mq_recover.proofs.StepsCuts.{each-stage}
use Rattle.mq_recover.proofs.StepsRecoveries.{last-stage, own-images}
use Rattle.mq_recover.specs.Copies.{content_of}
use Rattle.mq_recover.specs.Drives.{AreImages, DriveState, IsQuiescentDrive, view_over}
use Rattle.mq_recover.specs.Events.{AreHomeWrites, recovery_events}
use Rattle.mq_recover.specs.RecoverCauses.{OnDrive, UnlessImage}
use Rattle.mq_recover.specs.Recovering.{AreHeadsLow, HasStopped, HasWritten, IsRecovered}
use Rattle.mq_recover.specs.Recovery.{IsReadPrefix, IsStartDrive, started}
use Rattle.mq_recover.specs.Steps.{IsAgain}
use Rattle.mq_recover.specs.declared.refusal.RecoverRefusal.{RecoverRefusal}
use Rattle.mq_recover.specs.declared.refusal.RecoverRefusal.TheVariants.{Failed, Image, Off}
use Rattle.mq_loose_recover.proofs.ImagesFound.{found-readable, read-same}
use Rattle.mq_loose_recover.specs.Choices.{IsLooselyFound}
use Rattle.mq_loose_recover.specs.Images.{IsLooselyRead, IsReadableLooseImage, loose_reading, loose_view}
use Rattle.mq_loose_recover.specs.Standing.{HasLooselyRecovered, IsLooseStanding, IsLooseStartDrive, IsLooselyCutShort, LooselyStandsAs, loose_entries}
use Rattle.mq_loose_recover.specs.declared.standing.LooseFound.{LooseFound}
use Rattle.mq_loose_recover.specs.declared.standing.LooseStanding.{LooseStanding}

-- ---- what is found is good to recover from

pub heads-low : (g : Geometry) (d : DriveState) → IsReadableLooseImage g d → AreHeadsLow g d
heads-low g d image q own = (image.readable q own).words.order

pub top-low : (deps : ℕ → List ℕ) (g : Geometry) (d : DriveState) (ds : List Descriptor) (top : ℕ) → IsLooselyRead deps g (loose_view deps g d) ds top → d.root.base ≤ top
top-low deps g d ds top read = read.top_is.greatest d.root.base (record { where_from = inl refl })

-- ---- what stands in each image

-- where no chain has any, nothing stands above the base
none-read : (deps : ℕ → List ℕ) (g : Geometry) (i : Shown) (top : ℕ) → i.form ≡ loose_form deps → IsTop g i (λ q. []) top → IsLooselyRead deps g i [] top
none-read deps g i top form t = record {
  chains = λ q. [];
  whole = record { form_is = form; whole = t.whole; loose = λ q x low has. absurd has };
  standing = record { falls = tt; whole = λ x has. absurd has; met = λ x n has dep. absurd has; greatest = λ es inside met x has. absurd (inside x has).1 };
  top_is = t;
}

loose-log : (deps : ℕ → List ℕ) (g : Geometry) (s : DriveState) (queues : List PortImage) (root : PortImage) → IsSameLog g (view_over g s) (shown journal_reading g queues root) → IsSameLog g (loose_view deps g s) (shown (loose_reading deps) g queues root)
loose-log deps g s queues root same = record { form = refl; doorbell = same.doorbell; entry = same.entry; area = same.area }

-- what is to be shown of one image
abbrev StandsIn : (deps : ℕ → List ℕ) (g : Geometry) (s : DriveState) (ds : List Descriptor) (top : ℕ) (queues : List PortImage) (root : PortImage) → Type 0
StandsIn deps g s ds top queues root =
    (es : List Descriptor) × IsLooselyRead deps g (shown (loose_reading deps) g queues root) es top
    × (((root.base ≡ s.root.base) × (es ≡ ds)) ⊎ ((root.base ≡ top) × (es ≡ [])))
    × ((b : ℕ) → b < homes_of g → stands g (shown (loose_reading deps) g queues root) es b ≡ stands g (loose_view deps g s) ds b)

-- the same stands over another image with the same base
standing-along : (deps : ℕ → List ℕ) (g : Geometry) (v i : Shown) (chains : ℕ → List Descriptor) (ds : List Descriptor) → i.base ≡ v.base → AreStanding deps g v chains ds → AreStanding deps g i chains ds
standing-along deps g v i chains ds base s = record {
  falls = subst (λ (b : ℕ). AreFalling b ds) (sym base) s.falls;
  whole = s.whole;
  met = subst (λ (b : ℕ). AreMet deps b ds) (sym base) s.met;
  greatest = λ es inside met. s.greatest es inside (subst (λ (b : ℕ). AreMet deps b es) base met);
}

over-old : (deps : ℕ → List ℕ) (g : Geometry) (s : DriveState) (ds : List Descriptor) (top : ℕ) (writes : Writes) (queues : List PortImage) (root : PortImage) → IsLooselyRead deps g (loose_view deps g s) ds top → AreHomeWrites g s ds writes → IsLeftOld g s writes queues root
    → StandsIn deps g s ds top queues root
over-old deps g s ds top writes queues root read are left =
    let v : Shown = loose_view deps g s in
    let i : Shown = shown (loose_reading deps) g queues root in
    let same = loose-log deps g s queues root left.0 in
    let t = top-along g v i read.chains top same left.1 left.2 read.top_is in (
      ds,
      record { chains = read.chains; whole = record { form_is = refl; whole = t.whole; loose = read.whole.loose }; standing = standing-along deps g v i read.chains ds left.1 read.standing; top_is = t },
      inl (left.1, refl),
      λ b below. stands-along g v i ds b (λ x has. (read.standing.whole x has).0) same (λ none. left.3 b below (are.copies b ∙ ap (content_of v.area g.area) none)),
    )

over-top : (deps : ℕ → List ℕ) (g : Geometry) (s : DriveState) (ds : List Descriptor) (top : ℕ) (writes : Writes) (queues : List PortImage) (root : PortImage) → IsLooselyRead deps g (loose_view deps g s) ds top → AreHomeWrites g s ds writes → IsLeftNew g s writes top queues root
    → StandsIn deps g s ds top queues root
over-top deps g s ds top writes queues root read are left =
    let v : Shown = loose_view deps g s in
    let i : Shown = shown (loose_reading deps) g queues root in
    let same = loose-log deps g s queues root left.0 in (
      [],
      none-read deps g i top refl (top-raised g v i read.chains top same left.1 left.2 read.top_is),
      inr (left.1, refl),
      λ b below. left.3 b below ∙ ap (λ (o : Option (List ℕ)). or_else o (v.home b)) (are.copies b) ∙ sym (stands-copy g v ds b),
    )

-- at each stage every image stands for what stood at the start
stage-stands : (deps : ℕ → List ℕ) (g : Geometry) (s e : DriveState) (ds : List Descriptor) (top : ℕ) (writes : Writes) → IsQuiescentDrive g s → IsLooselyRead deps g (loose_view deps g s) ds top → AreHomeWrites g s ds writes → IsStage g s e writes top
    → LooselyStandsAs deps g s ds top e
stage-stands deps g s e ds top writes still read are stage queues root images = ⊎_elim
    (λ old. over-old deps g s ds top writes queues root read are old)
    (λ new. over-top deps g s ds top writes queues root read are new)
    (stage-left g s e top writes queues root still stage images)

-- ---- cut short

cut-short : (deps : ℕ → List ℕ) (g : Geometry) (e : RecoverRefusal) (s n : DriveState) (ds : List Descriptor) (top : ℕ) → IsQuiescentDrive g s → IsLooselyRead deps g (loose_view deps g s) ds top → HasStopped g e s ds top n → IsLooselyCutShort g e s n
cut-short deps g e s n ds top still read stopped =
    let all : Writes = stopped.writes in
    let below = writes-below g s ds all stopped.home_writes in
    let some = stops-some g e s n (recovery_events s all top) stopped.events in
    let stage : IsStage g s n all top = subst (λ (m : DriveState). IsStage g s m all top) (sym some.1) (each-stage g s all top some.0 still below) in
    record {
      deps = deps;
      ds = ds;
      top = top;
      read = read;
      writes = all;
      home_writes = stopped.home_writes;
      events = stopped.events;
      ports = stopped.ports;
      stands = stage-stands deps g s n ds top all still read stopped.home_writes stage;
    }

cut-err : (A B : Type 0) (deps : ℕ → List ℕ) (g : Geometry) (s n : DriveState) (ds : List Descriptor) (top : ℕ) (e : RecoverRefusal) → IsQuiescentDrive g s → IsLooselyRead deps g (loose_view deps g s) ds top → OnDrive {A = B} (Err e) (λ x. HasStopped g x s ds top n)
    → OnDrive {A = A} (Err e) (λ x. IsLooselyCutShort g x s n)
cut-err A B deps g s n ds top (Image fault) still read stopped = tt
cut-err A B deps g s n ds top Off still read stopped = cut-short deps g Off s n ds top still read stopped
cut-err A B deps g s n ds top (Failed block status) still read stopped = cut-short deps g (Failed block status) s n ds top still read stopped

-- as the call answers it
pub cut-found : (A B : Type 0) (deps : ℕ → List ℕ) (g : Geometry) (s n : DriveState) (ds : List Descriptor) (top : ℕ) (result : Result A RecoverRefusal) (e : RecoverRefusal) → IsQuiescentDrive g s → IsLooselyRead deps g (loose_view deps g s) ds top → result ≡ Err e
    → OnDrive {A = B} (Err e) (λ x. HasStopped g x s ds top n) → OnDrive result (λ x. IsLooselyCutShort g x s n)
cut-found A B deps g s n ds top result e still read is stopped =
    subst (λ (r : Result A RecoverRefusal). OnDrive r (λ x. IsLooselyCutShort g x s n)) (sym is) (cut-err A B deps g s n ds top e still read stopped)

-- ---- the start of a journal

-- An image whose chains have none is one of the journal too, which shows the same number.
journal-read : (deps : ℕ → List ℕ) (g : Geometry) (d : DriveState) (top : ℕ) → IsTop g (loose_view deps g d) (λ q. []) top → IsReadPrefix g (view_over g d) [] top
journal-read deps g d top t =
    let whole : AreWhole g (view_over g d) (λ q. []) = record {
      limit = t.whole.limit;
      each = λ q own.
          let c = t.whole.each q own in
          record {
            number = c.number;
            lba = c.lba;
            place = c.place;
            order = c.order;
            few = c.few;
            low = c.low;
            none = c.none;
            newest = c.newest;
            limit = c.limit;
            own = c.own;
            chain = c.chain;
            reach = c.reach;
            rung = c.rung;
            rung_whole = c.rung_whole;
          };
      once = λ q r low lower other a b has. absurd has;
    } in
    record {
      form_is = refl;
      chains = λ q. [];
      whole = whole;
      prefix = record { row = tt; whole = λ x has. absurd has; greatest = λ q x low has. absurd has };
      top_is = record { whole = whole; shown = record { where_from = t.shown.where_from }; greatest = λ n shows. t.greatest n (record { where_from = shows.where_from }) };
    }

port-start : (g : Geometry) (d : DriveState) (start : List (Option (List ℕ))) (z : Option ℕ) (from : ℕ) (p : PortState) → IsStartPort journal_entries (started g d start) z from p → IsStartPort loose_entries (started g d start) z from p
port-start g d start z from p s = record {
  port = s.port;
  doorbell = s.doorbell;
  head = s.head;
  stored_head = s.stored_head;
  flushed_end = s.flushed_end;
  pending = s.pending;
  posted = s.posted;
  failed = s.failed;
  staged = s.staged;
  low = s.low;
  newest = s.newest;
  homes = λ x v content inside zone due mapped low. let k = s.homes x v content inside zone due mapped low in record { certain = k.certain; is = k.is };
}

loose-start : (g : Geometry) (d : DriveState) → IsStartDrive g d → IsLooseStartDrive g d
loose-start g d starts_so start long holds =
    let s = starts_so start long holds in
    record {
      entries = entries_read (loose_form (λ n. []));
      form = loose-sound (λ n. []);
      history = s.history;
      low = s.low;
      base = s.base;
      stored_base = s.stored_base;
      start = s.start;
      ports = s.ports;
      marked = s.marked;
      marks = s.marks;
      writing = s.writing;
      acknowledged = s.acknowledged;
      each = λ q own. port-start g d start (Some q) _ _ (s.each q own);
      root = port-start g d start None 0 d.root s.root;
    }

-- ---- done

pub whole : (deps : ℕ → List ℕ) (g : Geometry) (s m : DriveState) (ds : List Descriptor) (top : ℕ) (answer : LooseStanding) → IsQuiescentDrive g s → IsLooselyRead deps g (loose_view deps g s) ds top → IsLooseStanding g s ds top answer → answer.base ≡ top → HasWritten g s ds top m
    → HasLooselyRecovered g s answer m
whole deps g s m ds top answer still read standing base_is written =
    let v = loose_view deps g s in
    let i = loose_view deps g m in
    let all : Writes = written.writes in
    let recovered = written.recovered in
    let moved_head : (q : ℕ) → q < g.queues → i.head q ≡ v.doorbell q = λ q own.
    ap (λ (x : PortImage). x.head) (image-at m.queues q) ∙ (recovered.heads q own).head ∙ (recovered.heads q own).doorbell ∙ sym (ap (λ (x : PortImage). x.doorbell) (image-at s.queues q)) in
    let stage = last-stage g s m ds top still written in
    let same : IsSameLog g v i = loose-log deps g s (map image_of m.queues) (image_of m.root) (same-log g s m (map image_of m.queues) (image_of m.root) still stage.0 (own-images g m)) in
    let raised = top-raised g v i read.chains top same recovered.base (λ q own. inr (moved_head q own)) read.top_is in
    record {
      deps = deps;
      ds = ds;
      top = top;
      read = read;
      standing = standing;
      base_is = base_is;
      writes = all;
      home_writes = written.home_writes;
      events = written.events;
      recovered = recovered;
      stands = stage-stands deps g s m ds top all still read written.home_writes stage;
      again = none-read deps g i top refl raised;
      begun = written.begun;
      start = loose-start g m (starts g m top recovered.still (λ q own. (recovered.heads q own).head) (journal-read deps g m top raised) recovered.base);
    }

-- ---- the answer

-- a readable image is not refused, whatever the drive then refuses
pub unless-image : {A : Type 0} (g : Geometry) (d : DriveState) (found : LooseFound) (result : Result A RecoverRefusal) → IsLooselyFound g d found → UnlessImage result (IsReadableLooseImage g d)
unless-image g d found (Ok x) is = found-readable g d found is
unless-image g d found (Err (Image fault)) is = tt
unless-image g d found (Err Off) is = found-readable g d found is
unless-image g d found (Err (Failed block status)) is = found-readable g d found is

-- ---- begun again

-- what a cut recovery left, recovered later: what was to be recovered
pub again-same : (g : Geometry) (e : RecoverRefusal) (old new start later : DriveState) (deps : ℕ → List ℕ) (ds : List Descriptor) (top : ℕ) (cut : IsLooselyCutShort g e old new) → AreImages g new (map image_of start.queues) (image_of start.root)
    → IsLooselyRead deps g (loose_view deps g start) ds top → IsRecovered g start ds top later → IsAgain g old cut.ds cut.top start ds top later
again-same g e old new start later deps ds top cut images read recovered =
    let left = cut.stands (map image_of start.queues) (image_of start.root) images in
    let same = read-same g start deps cut.deps ds left.0 top cut.top read left.1 in
    let some = stops-some g e old new (recovery_events old cut.writes cut.top) cut.events in
    record {
      recovered = record {
        still = recovered.still;
        homes = λ b below. recovered.homes b below ∙ ap (λ (l : List Descriptor). stands g (view_over g start) l b) same.0 ∙ left.3 b below;
        base = recovered.base ∙ same.1;
        heads = λ q own. record {
          head = (recovered.heads q own).head;
          doorbell =
              (recovered.heads q own).doorbell
              ∙ sym (ap (λ (x : PortImage). x.doorbell) (image-at start.queues q))
              ∙ (images.each q own).doorbell
              ∙ ap (λ (d : DriveState). (port_at d.queues q).doorbell) some.1
              ∙ ap (λ p. p.0) (events-fixed g old (take some.0 (recovery_events old cut.writes cut.top)) (Some q));
        };
      };
      base_is = same.1;
      left = ⊎_elim (λ kept. inl (kept.0, same.0 ∙ kept.1)) (λ none. inr (none.0, same.0 ∙ none.1)) left.2;
    }
