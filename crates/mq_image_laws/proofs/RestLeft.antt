-- What a recovery of an image leaves as it was.
use Rattle.std.proofs.Common.{◌≡◌, ◌<◌, ◌+◌, ◌⊎◌, inl, inr, ⊎_elim, ℕ, true, false, List, [], length, take, Option, None, sym, ◌∙◌, ap, subst, arith}
use Rattle.std.proofs.lemmas.List.{ext_get_or, take_all}
use Rattle.std.specs.Prelude.{Bool, Some, is_none}
use Rattle.mq_blocks.specs.Blocks.{block_at}
use Rattle.mq_blocks.specs.Descriptor.{Descriptor}
use Rattle.mq_blocks.specs.Drive.{IsImage, PortImage, PortState}
use Rattle.mq_blocks.specs.Geometry.{area_of, homes_of, zone_of}
use Rattle.mq_blocks.specs.Journal.{Shown, image_at, or_else, shown}
use Rattle.mq_blocks.specs.Machine.{Writes}
use Rattle.mq_blocks.specs.declared.geometry.Geometry.{Geometry}
use Rattle.mq_drive.specs.Emu.{emu_faults, emu_state}
use Rattle.mq_image.specs.Drives.{IsDrive}
use Rattle.mq_image.specs.File.{DriveImage, queue_ports, root_port}
use Rattle.mq_image_ops.specs.Cuts.{HasRun, IsPicked, IsPickedRecovery, with_ports}
use Rattle.mq_image_ops.specs.Recovering.{IsRecoveryOf}
use Rattle.mq_image_ops.specs.Views.{view_of}
use Rattle.mq_image_ops.specs.declared.recovery.RecoveredImage.{RecoveredImage}
use Rattle.mq_image_ops.proofs.CutsRecoverings.{left-images}
use Rattle.mq_image_ops.proofs.Views.{start-queue, started-still, started-view}
use Rattle.mq_ledger.specs.Sides.{home_index}
use Rattle.mq_ledger.specs.State.{port_at}
use Rattle.mq_nvme.specs.Says.{journal_reading}
use Rattle.mq_recover.specs.Copies.{content_of, copy_of}
use Rattle.mq_recover.specs.Drives.{AreImages, ArePorts, DriveFaults, DriveState, IsQuiescentDrive, drive_of, faults_on, view_over}
use Rattle.mq_recover.specs.Events.{AreHomeWrites, Event, after_events, recovery_events}
use Rattle.mq_recover.specs.RecoverHomes.{written}
use Rattle.mq_recover.specs.Recovery.{IsReadPrefix}
use Rattle.mq_recover.specs.declared.choice.Recovered.{Recovered}
use Rattle.mq_recover.proofs.DrivesImages.{read-same}
use Rattle.mq_recover.proofs.DrivesStages.{AreHeadsMoving, AreKept, IsStage, IsSure, apart-none}
use Rattle.mq_recover.proofs.DrivesZones.{IsZone, home-in, home_in, image-at, image_in, images-in, placed-at, port_in, still-in, still-ports, view-home, zone-is}
use Rattle.mq_recover.proofs.RecoveringDrives.{writes-below}
use Rattle.mq_recover.proofs.StepsCuts.{each-stage}
use Rattle.mq_image_laws.specs.Rest.{LeavesRest}

-- ---- at each stage of a recovery

-- what an image holds of a block that is certain
sure-image : (t : PortState) (i : PortImage) (k : ℕ) (v : List ℕ) → IsImage t i → t.posted ≡ [] → k < length t.blocks → IsSure t k v → block_at i.blocks k ≡ v
sure-image t i k v image none within held = image.blocks k within (record { certain = held.certain; apart = apart-none t k t.posted none }) ∙ held.is

either-head : (n a b m o : ℕ) → (n ≡ m) ⊎ (n ≡ o) → (m ≡ a) ⊎ (m ≡ b) → (o ≡ a) ⊎ (o ≡ b) → (n ≡ a) ⊎ (n ≡ b)
either-head n a b m o (inl h) (inl l) second = inl (h ∙ l)
either-head n a b m o (inl h) (inr l) second = inr (h ∙ l)
either-head n a b m o (inr h) first (inl l) = inl (h ∙ l)
either-head n a b m o (inr h) first (inr l) = inr (h ∙ l)

module _ (g : Geometry) (s e : DriveState) (queues : List PortImage) (root : PortImage) (writes : Writes) (top : ℕ) (still : IsQuiescentDrive g s) (stage : IsStage g s e writes top) (images : AreImages g e queues root) where
  kept : AreKept g s e
  kept = stage.0

  -- no slot is staged
  slots-kept : (q : ℕ) → q < g.queues → (image_at queues q).slots ≡ (port_at s.queues q).flushed
  slots-kept q own =
      let i : PortImage = image_at queues q in
      let t : PortState = port_at e.queues q in
      let log = kept.each (Some q) own in
      let image = images.each q own in
      let none : length t.pending ≡ 0 = ap length log.pending in
      let end = log.flushed_end in
      let size = image.slots_len in
      ext_get_or [] i.slots t.flushed size (λ k within. image.slots k (omega (arith, within, size)) (λ c low high at. omega (arith, low, high, none, end))) ∙ log.flushed

  area-kept : (q k : ℕ) → q < g.queues → k < g.area → block_at (image_at queues q).blocks k ≡ block_at (port_at s.queues q).blocks k
  area-kept q k own inside =
      let p : PortState = port_at s.queues q in
      let t : PortState = port_at e.queues q in
      let log = kept.each (Some q) own in
      let size : length p.blocks ≡ g.area + g.zone = (still.each q own).port.blocks in
      let same = log.blocks_len in
      sure-image t (image_at queues q) k (block_at p.blocks k) (images.each q own) log.posted (omega (arith, size, same, inside)) (log.area k inside)

  -- a block that is not written is certain
  home-sure : (b : ℕ) → b < homes_of g → written writes b ≡ None → IsSure (port_in e (zone_of g b)) (home_index g b) (home_in g s b)
  home-sure b inside none = ⊎_elim
      (λ going. going.homes b inside none)
      (λ later. ⊎_elim (λ raising. unwritten (raising.homes b inside)) (λ moving. unwritten (moving.homes b inside)) later)
      stage.1
    where
      unwritten : IsSure (port_in e (zone_of g b)) (home_index g b) (or_else (written writes b) (home_in g s b)) → IsSure (port_in e (zone_of g b)) (home_index g b) (home_in g s b)
      unwritten sure = subst (λ (o : Option (List ℕ)). IsSure (port_in e (zone_of g b)) (home_index g b) (or_else o (home_in g s b))) none sure

  home-kept : (b : ℕ) → b < homes_of g → written writes b ≡ None → (shown journal_reading g queues root).home b ≡ home_in g s b
  home-kept b inside none =
      let z : Option ℕ = zone_of g b in
      let zone : IsZone g z = zone-is g b inside in
      let same = kept.each z zone in
      let len = same.blocks_len in
      let placed = placed-at g b (port_in s z) (still-in g s still z zone).port in
      let high = placed.high in
      home-in g queues root b z ∙ sure-image (port_in e z) (image_in queues root z) (home_index g b) (home_in g s b) (images-in g e queues root images z zone) same.posted (omega (arith, high, len)) (home-sure b inside none)

  -- each head is where it was, or at its doorbell
  heads-moving : AreHeadsMoving g s e
  heads-moving q own = ⊎_elim
      (λ going. let w = going.words (Some q) own in record { head = inl w.head; stored_head = inl w.stored_head })
      (λ later. ⊎_elim (λ raising. let h = raising.heads q own in record { head = inl h.head; stored_head = inl h.stored_head }) (λ moving. moving.heads q own) later)
      stage.1

  head-kept : (q : ℕ) → q < g.queues → ((image_at queues q).head ≡ (port_at s.queues q).head) ⊎ ((image_at queues q).head ≡ (port_at s.queues q).doorbell)
  head-kept q own =
      let p : PortState = port_at s.queues q in
      let t : PortState = port_at e.queues q in
      let moving = heads-moving q own in
      either-head (image_at queues q).head p.head p.doorbell t.head t.stored_head (images.each q own).head moving.head moving.stored_head

-- ---- where a recovery ends

-- it ends at some stage, on the ports of the drive
record IsEnded (g : Geometry) (d e : DriveState) : Type 0 where
  ds : List Descriptor
  top : ℕ
  writes : Writes
  read : IsReadPrefix g (view_over g d) ds top
  home_writes : AreHomeWrites g d ds writes
  stage : IsStage g d e writes top
  ports : ArePorts g e

run-ended : (g : Geometry) (d e : DriveState) (before after : DriveFaults) (found : Recovered) (whole : Bool) → IsQuiescentDrive g d → HasRun g d e before after found whole → IsEnded g d e
run-ended g d e before after found true still run =
    let done = run.0 in
    let events : List Event = recovery_events d done.writes found.base in
    let all : take (length events) events ≡ events = take_all (length events) events (omega arith) in
    let at = each-stage g d done.writes found.base (length events) still (writes-below g d done.ds done.writes done.home_writes) in
    record {
      ds = done.ds;
      top = found.base;
      writes = done.writes;
      read = done.read;
      home_writes = done.home_writes;
      stage = subst (λ (n : DriveState). IsStage g d n done.writes found.base) (ap (after_events g d) all ∙ sym done.events) at;
      ports = still-ports g e done.recovered.still;
    }
run-ended g d e before after found false still run =
    let short = run.0 in
    let at = each-stage g d short.writes short.top short.events.0 still (writes-below g d short.ds short.writes short.home_writes) in
    record {
      ds = short.ds;
      top = short.top;
      writes = short.writes;
      read = short.read;
      home_writes = short.home_writes;
      stage = subst (λ (n : DriveState). IsStage g d n short.writes short.top) (sym short.events.2) at;
      ports = short.ports;
    }

-- ---- what it leaves

module _ (x : DriveImage) (limit : Option ℕ) (pick : ℕ) (r : RecoveredImage) (drive : IsDrive x) (recovery : IsRecoveryOf x limit r) (chosen : IsPickedRecovery x limit pick r) where
  abbrev g : Geometry
  g = x.geometry

  picked : IsPicked x pick chosen.fuse r.found (is_none r.cut) r.image.ports chosen.seats
  picked = chosen.picked

  abbrev d : DriveState
  d = drive_of emu_state picked.old

  abbrev e : DriveState
  e = drive_of emu_state picked.new

  abbrev y : DriveImage
  y = with_ports x r.image.ports

  still : IsQuiescentDrive g d
  still = started-still chosen.fuse None x d drive picked.started.states

  view : view_over g d ≡ view_of x
  view = started-view chosen.fuse None x d picked.started.states

  ended : IsEnded g d e
  ended = run-ended g d e (faults_on emu_faults picked.old) (faults_on emu_faults picked.new) r.found (is_none r.cut) still picked.ran

  images : AreImages g e (queue_ports y) (root_port y)
  images = left-images x picked.new pick r.image.ports chosen.seats picked.cut ended.ports

  -- both write the same blocks
  same-writes : (b : ℕ) → written recovery.writes b ≡ None → written ended.writes b ≡ None
  same-writes b none =
      let read : IsReadPrefix g (view_of x) ended.ds ended.top = subst (λ (i : Shown). IsReadPrefix g i ended.ds ended.top) view ended.read in
      let same : ended.ds ≡ recovery.ds = (read-same g (view_of x) ended.ds recovery.ds ended.top recovery.top read recovery.plan.read).0 in
      ended.home_writes.copies b
      ∙ ap (λ (i : Shown). content_of i.area (area_of g) (copy_of ended.ds b)) view
      ∙ ap (λ (l : List Descriptor). content_of (view_of x).area (area_of g) (copy_of l b)) same
      ∙ sym (recovery.plan.copies b)
      ∙ none

  start-port : (q : ℕ) → q < g.queues → (slots : (port_at d.queues q).flushed ≡ (image_at (queue_ports x) q).slots) × ((port_at d.queues q).head ≡ (view_of x).head q) × ((port_at d.queues q).doorbell ≡ (view_of x).doorbell q)
  start-port q own =
      let at : port_at d.queues q ≡ _ = ap (λ (s : DriveState). port_at s.queues q) picked.started.states ∙ start-queue chosen.fuse None x q drive own in
      (ap (λ (s : PortState). s.flushed) at, ap (λ (s : PortState). s.head) at, ap (λ (s : PortState). s.doorbell) at)

  leaves-here : LeavesRest x recovery.writes y
  leaves-here = record {
    slots = λ q own. slots-kept g d e (queue_ports y) (root_port y) ended.writes ended.top still ended.stage images q own ∙ (start-port q own).0;
    area = λ q k own inside.
        area-kept g d e (queue_ports y) (root_port y) ended.writes ended.top still ended.stage images q k own inside
        ∙ sym (ap (λ (i : PortImage). block_at i.blocks k) (image-at d.queues q))
        ∙ ap (λ (i : Shown). i.area q k) view;
    homes = λ b inside none.
        home-kept g d e (queue_ports y) (root_port y) ended.writes ended.top still ended.stage images b inside (same-writes b none)
        ∙ sym (view-home g d b)
        ∙ ap (λ (i : Shown). i.home b) view;
    heads = λ q own.
        let at = start-port q own in
        ⊎_elim
        (λ before. inl (before ∙ at.1))
        (λ moved. inr (moved ∙ at.2))
        (head-kept g d e (queue_ports y) (root_port y) ended.writes ended.top still ended.stage images q own);
  }

  pub leaves-rest : LeavesRest x recovery.writes r.image
  leaves-rest = subst (λ (h : Geometry). LeavesRest x recovery.writes (record { geometry = h; ports = r.image.ports })) (sym recovery.geometry) leaves-here
