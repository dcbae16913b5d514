-- What a recovery of an image leaves, and how many of its events happened.
use Rattle.std.proofs.Common.{◌≡◌, ◌<◌, ◌≤◌, inl, inr, ⊎_elim, ℕ, zero, suc, ◌+◌, ◌-◌, Bool, true, false, List, [], ◌∷◌, ◌++◌, All, length, map, take, get_or, Option, Some, None, refl, sym, ◌∙◌, ap, subst, arith, length-append}
use Rattle.std.specs.Option.{ForSome}
use Rattle.std.specs.Prelude.{Contains, Err, if◌then◌else◌, is_none, slice_get}
use Rattle.std.proofs.lemmas.Bool.{cases_lt}
use Rattle.std.proofs.lemmas.List.{get_or_append_left, get_or-append_right, get_or-set_same, length-map, map_push, take_at}
use Rattle.mq_blocks.specs.Descriptor.{Descriptor}
use Rattle.mq_blocks.specs.Drive.{FuseName, IsImage, IsQuiescent, PortImage, PortState, image_of}
use Rattle.mq_blocks.specs.Geometry.{area_of, home_lba, zone_of}
use Rattle.mq_blocks.specs.Journal.{Shown, image_at, shown, stands, no_image}
use Rattle.mq_blocks.specs.Machine.{Writes}
use Rattle.mq_blocks.specs.Totals.{total}
use Rattle.mq_blocks.specs.declared.geometry.Geometry.{Geometry}
use Rattle.mq_blocks.proofs.Totals.{total_append}
use Rattle.mq_drive.specs.Emu.{drawn_by, emu_faults, emu_state}
use Rattle.mq_drive.specs.Fuse.{above}
use Rattle.mq_drive.specs.Seats.{fuse_of, tickets_of}
use Rattle.mq_drive.specs.Start.{IsImageOf, IsPortOf, start_of}
use Rattle.mq_drive.specs.Steps.{PortFault, Gains, HomeError, PowerOff}
use Rattle.mq_drive.specs.declared.emu.EmuPort.{EmuPort}
use Rattle.mq_drive.specs.declared.fuse.FuseSeat.{FuseSeat}
use Rattle.mq_drive.specs.declared.port.Ports.{Ports}
use Rattle.mq_drive.specs.declared.role.Role.{Role}
use Rattle.mq_drive.specs.declared.role.Role.TheVariants.{Queue, Root}
use Rattle.mq_drive.proofs.StepsFaults.{home_error_is_none, no_error, off_above, off_unlimited}
use Rattle.mq_image.specs.Drives.{HasWidths, IsDrive}
use Rattle.mq_image.specs.File.{DriveImage, queue_ports, root_port}
use Rattle.mq_image_ops.specs.Cuts.{AreCutPorts, AreSound, EndsBy, HasRun, IsCutPort, IsLeftBy, happened_at, row_of, with_ports}
use Rattle.mq_image_ops.specs.Recovering.{EndsAs, IsAllHome, IsRecoveryOf, IsStillStanding, IsToRecover, events_of}
use Rattle.mq_image_ops.specs.declared.recovery.RecoveredImage.{RecoveredImage}
use Rattle.mq_image_ops.specs.Starts.{AreStarted}
use Rattle.mq_image_ops.specs.Views.{drive_from, view_of}
use Rattle.mq_image_ops.proofs.CutsRows.{IsLimited, happened-all, images-at, images-long, images-only, seat-of, seats-long, seats-own}
use Rattle.mq_image_ops.proofs.Views.{queue-in, queues-count, start-at, start-still, start-view}
use Rattle.mq_image_ops.proofs.RecoveringTally.{few-events, recovery-length, recovery-tally, tally, tally_of}
use Rattle.mq_ledger.specs.State.{port_at}
use Rattle.mq_nvme.specs.Says.{journal_reading}
use Rattle.mq_recover.specs.Drives.{AreBoundsKept, AreImages, ArePorts, DriveFaults, DriveState, IsQuiescentDrive, drive_of, faults_on, view_over}
use Rattle.mq_recover.specs.Copies.{content_of, copy_of}
use Rattle.mq_recover.specs.RecoverCauses.{HasDriveCause, OnDrive, OneGains}
use Rattle.mq_recover.specs.Recovery.{IsReadPrefix}
use Rattle.mq_recover.specs.Events.{AreHomeWrites, Event, after_events, recovery_events}
use Rattle.mq_recover.specs.Steps.{IsCutShort, HasRecovered}
use Rattle.mq_recover.specs.declared.choice.Recovered.{Recovered}
use Rattle.mq_recover.specs.declared.refusal.RecoverRefusal.{RecoverRefusal}
use Rattle.mq_recover.specs.declared.refusal.RecoverRefusal.TheVariants.{Failed, Off}
use Rattle.mq_recover.specs.Standing.{Finds}
use Rattle.mq_recover.proofs.DrivesImages.{read-same, view-seen}
use Rattle.mq_recover.proofs.StepsCuts.{each-stage}
use Rattle.mq_recover.proofs.RecoveringDrives.{writes-below}
use Rattle.mq_recover.proofs.DrivesZones.{IsZone, port_in, still-ports}

-- ---- which port has a new fault

mapped-at : (ps : List EmuPort) (q : ℕ) → q < length ps → (p : EmuPort) × (slice_get ps q ≡ Some p) × (get_or (map emu_faults ps) q [] ≡ emu_faults p) × (port_at (map emu_state ps) q ≡ emu_state p)
mapped-at [] q low = absurd (omega arith)
mapped-at (p ∷ ps) zero low = (p, refl, refl, refl)
mapped-at (p ∷ ps) (suc q) low = mapped-at ps q (omega arith)

more-at : (ps : List EmuPort) (root p : EmuPort) (q : ℕ) → slice_get ps q ≡ Some p → slice_get (ps ++ root ∷ []) q ≡ Some p
more-at [] root p q at = absurd (none-some at)
  where
    none-some : None ≡ Some p → ⊥
    none-some e = cc
more-at (r ∷ ps) root p zero at = at
more-at (r ∷ ps) root p (suc q) at = more-at ps root p q at

last-at : (ps : List EmuPort) (root : EmuPort) → slice_get (ps ++ root ∷ []) (length ps) ≡ Some root
last-at [] root = refl
last-at (p ∷ ps) root = last-at ps root

-- a port that was without faults has this one
pub record HasGained (g : Geometry) (f : PortFault) (ports : Ports EmuPort) : Type 0 where
  pub zone : Option ℕ
  pub own : IsZone g zone
  pub port : EmuPort
  pub state : port_in (drive_of emu_state ports) zone ≡ emu_state port
  pub index : ℕ
  pub at : slice_get (row_of ports) index ≡ Some port
  pub gains : Gains f [] (emu_faults port)

none-faults : (ps : List EmuPort) (q : ℕ) → All (λ p. emu_faults p ≡ []) ps → get_or (map emu_faults ps) q [] ≡ []
none-faults [] q all = refl
none-faults (p ∷ ps) zero all = all 0 p (omega arith)
none-faults (p ∷ ps) (suc q) all = none-faults ps q (λ k d low. all (suc k) d (omega (arith, low)))

pub has-gained : (g : Geometry) (f : PortFault) (old new : Ports EmuPort) (port : Option ℕ) → AreSound g old → length new.queues.items ≡ g.queues → length old.queues.items ≡ g.queues → OneGains port f (faults_on emu_faults old) (faults_on emu_faults new) → HasGained g f new
has-gained g f old new None sound count before gains = record {
  zone = None;
  own = tt;
  port = new.root;
  state = refl;
  index = length new.queues.items;
  at = last-at new.queues.items new.root;
  gains = subst (λ (l : List PortFault). Gains f l (emu_faults new.root)) sound.root gains.1;
}
has-gained g f old new (Some q) sound count before gains =
    let within : q < length (map emu_faults old.queues.items) = gains.0 in
    let long = length-map old.queues.items emu_faults in
    let p = mapped-at new.queues.items q (omega (arith, within, long, count, before)) in
    let faults : gains.1 ≡ emu_faults p.0 =
    sym (get_or-set_same (map emu_faults old.queues.items) q gains.1 [] within) ∙ sym (ap (λ (l : List (List PortFault)). get_or l q []) gains.3) ∙ p.2 in
    record {
      zone = Some q;
      own = omega (arith, within, long, before);
      port = p.0;
      state = p.3;
      index = q;
      at = more-at new.queues.items new.root p.0 q p.1;
      gains = subst (λ (l : List PortFault). Gains f l (emu_faults p.0)) (none-faults old.queues.items q sound.queues) (subst (Gains f (get_or (map emu_faults old.queues.items) q [])) faults gains.2);
    }

-- where no command is to fail, no home write ends with an error
pub none-failed : (g : Geometry) (old new : Ports EmuPort) (port : Option ℕ) (lba status : ℕ) → AreSound g old → AreBoundsKept g (drive_of emu_state old) (drive_of emu_state new) → length new.queues.items ≡ g.queues → length old.queues.items ≡ g.queues
    → OneGains port (HomeError lba status) (faults_on emu_faults old) (faults_on emu_faults new) → ⊥
none-failed g old new port lba status sound bounds count before gains =
    let h = has-gained g (HomeError lba status) old new port sound count before gains in
    no_error [] h.port.device.value (HomeError lba status) (home_error_is_none lba status) h.gains
    (ap (λ (s : PortState). s.fail) (sym h.state) ∙ fails h.zone h.own) (λ has. let within = has.1 in omega (arith, within))
  where
    fails : (z : Option ℕ) → IsZone g z → (port_in (drive_of emu_state new) z).fail ≡ None
    fails None zone = bounds.root.fail ∙ sound.root_none
    fails (Some q) zone = (bounds.queues q zone).fail ∙ sound.none q zone

-- ---- the drive that starts from the image

pub started-sound : (g : Geometry) (fuse : FuseName) (x : DriveImage) (ports : Ports EmuPort) → g ≡ x.geometry → IsDrive x → AreStarted fuse None x ports → AreSound g ports
started-sound g fuse x ports same drive started =
    let many = queues-count x drive in
    subst (λ (h : Geometry). AreSound h ports) (sym same) (record {
      queues = λ k d low. (started.queues k d low).faults;
      root = started.root.faults;
      none = λ q low. ap (λ (d : DriveState). (port_at d.queues q).fail) started.states ∙ ap (λ (s : PortState). s.fail) (start-at x.geometry fuse None 0 (queue_ports x) q (omega (arith, many, low)));
      root_none = ap (λ (d : DriveState). d.root.fail) started.states;
    })

-- ---- all events, or the first of them

take-all : (xs : List Event) → take (length xs) xs ≡ xs
take-all [] = refl
take-all (x ∷ xs) = ap (λ (l : List Event). x ∷ l) (take-all xs)

-- a recovery that has made the first k of its events
pub record HasMade (x : DriveImage) (d e : DriveState) (ds : List Descriptor) (top : ℕ) (writes : Writes) (k : ℕ) : Type 0 where
  pub read : IsReadPrefix x.geometry (view_over x.geometry d) ds top
  pub home_writes : AreHomeWrites x.geometry d ds writes
  pub most : k ≤ events_of x writes top
  pub events : e ≡ after_events x.geometry d (take k (recovery_events d writes top))
  pub ports : ArePorts x.geometry e

done-made : (x : DriveImage) (fuse : FuseName) (d e : DriveState) (found : Recovered) → d ≡ drive_from fuse None x → (done : HasRecovered x.geometry d found.prefix found.base e) → HasMade x d e done.ds found.base done.writes (events_of x done.writes found.base)
done-made x fuse d e found start done =
    let long : length (recovery_events d done.writes found.base) ≡ events_of x done.writes found.base =
    ap (λ (s : DriveState). length (recovery_events s done.writes found.base)) start ∙ recovery-length fuse x done.writes found.base in
    record {
      read = done.read;
      home_writes = done.home_writes;
      most = omega arith;
      events = done.events ∙ ap (after_events x.geometry d) (sym (ap (λ (k : ℕ). take k (recovery_events d done.writes found.base)) (sym long) ∙ take-all (recovery_events d done.writes found.base)));
      ports = still-ports x.geometry e done.recovered.still;
    }

short-made : (x : DriveImage) (fuse : FuseName) (d e : DriveState) → d ≡ drive_from fuse None x → (short : IsCutShort x.geometry Off d e) → (short.events.0 < events_of x short.writes short.top) × HasMade x d e short.ds short.top short.writes short.events.0
short-made x fuse d e start short =
    let long : length (recovery_events d short.writes short.top) ≡ events_of x short.writes short.top =
    ap (λ (s : DriveState). length (recovery_events s short.writes short.top)) start ∙ recovery-length fuse x short.writes short.top in
    let low = short.events.1 in
    let less : short.events.0 < events_of x short.writes short.top = omega (arith, long, low) in (
      less,
      record {
        read = short.read;
        home_writes = short.home_writes;
        most = omega (arith, less);
        events = short.events.2;
        ports = short.ports;
      },
    )

-- what there is to recover
made-plan : (x : DriveImage) (fuse : FuseName) (d e : DriveState) (ds : List Descriptor) (top : ℕ) (writes : Writes) (k : ℕ) → d ≡ drive_from fuse None x → HasMade x d e ds top writes k → IsToRecover x ds top writes
made-plan x fuse d e ds top writes k start made =
    let view : view_over x.geometry d ≡ view_of x = ap (view_over x.geometry) start ∙ start-view fuse None x in
    record {
      read = subst (λ (i : Shown). IsReadPrefix x.geometry i ds top) view made.read;
      rising = made.home_writes.rising;
      copies = λ b. made.home_writes.copies b ∙ ap (λ (i : Shown). content_of i.area (area_of x.geometry) (copy_of ds b)) view;
    }

-- ---- the ports in a row

row-states : (ports : Ports EmuPort) → map emu_state (row_of ports) ≡ (drive_of emu_state ports).queues ++ (drive_of emu_state ports).root ∷ []
row-states ports = map_push emu_state ports.queues.items ports.root

row-tally : (ports : Ports EmuPort) → total tally (map emu_state (row_of ports)) ≡ tally_of (drive_of emu_state ports)
row-tally ports =
    let d = drive_of emu_state ports in
    let sum = total_append tally d.queues (d.root ∷ []) in
    ap (total tally) (row-states ports) ∙ (let e : total tally (d.queues ++ d.root ∷ []) ≡ tally_of d = omega (arith, sum) in e)

module _ (g : Geometry) (ports : Ports EmuPort) (count : length ports.queues.items ≡ g.queues) where
  abbrev row_drive : DriveState
  row_drive = drive_of emu_state ports

  pub row-long : length (row_of ports) ≡ g.queues + 1
  row-long = length-append ports.queues.items (ports.root ∷ []) ∙ ap (λ (k : ℕ). k + 1) count

  row-queue : (q : ℕ) (d : PortState) → q < g.queues → get_or (map emu_state (row_of ports)) q d ≡ port_at row_drive.queues q
  row-queue q d low =
      let long : length row_drive.queues ≡ g.queues = length-map ports.queues.items emu_state ∙ count in
      ap (λ (l : List PortState). get_or l q d) (row-states ports)
      ∙ get_or_append_left row_drive.queues (row_drive.root ∷ []) d q (omega (arith, low, long))
      ∙ any-else row_drive.queues q d _ (omega (arith, low, long))
    where
      any-else : (l : List PortState) (q : ℕ) (d e : PortState) → q < length l → get_or l q d ≡ get_or l q e
      any-else [] q d e low = absurd (omega arith)
      any-else (s ∷ l) zero d e low = refl
      any-else (s ∷ l) (suc q) d e low = any-else l q d e (omega (arith, low))

  row-root : (d : PortState) → get_or (map emu_state (row_of ports)) g.queues d ≡ row_drive.root
  row-root d =
      let long : length row_drive.queues ≡ g.queues = length-map ports.queues.items emu_state ∙ count in
      ap (λ (l : List PortState). get_or l g.queues d) (row-states ports)
      ∙ get_or-append_right row_drive.queues (row_drive.root ∷ []) g.queues g.queues d long (omega arith)
      ∙ ap (λ (k : ℕ). get_or (row_drive.root ∷ []) k d) (let e : g.queues - g.queues ≡ 0 = omega arith in e)

  -- what holds of each port, by its number, holds of each in the row
  pub row-at : (P : ℕ → PortState → Type 0) → ((q : ℕ) → q < g.queues → P q (port_at row_drive.queues q)) → P g.queues row_drive.root → (k : ℕ) (d : PortState) → k < length (row_of ports) → P k (get_or (map emu_state (row_of ports)) k d)
  row-at P queues root k d low = elim (cases_lt k g.queues) [
    | inl less ↦ subst (P k) (sym (row-queue k d less)) (queues k less)
    | inr high ↦
        let long = row-long in
        let last : g.queues ≡ k = omega (arith, low, high, long) in
        subst (λ (j : ℕ). P j (get_or (map emu_state (row_of ports)) j d)) last (subst (P g.queues) (sym (row-root d)) root)
  ]

  -- and so does what holds of each, whatever its number
  pub row-each : (P : PortState → Type 0) → ((z : Option ℕ) → IsZone g z → P (port_in row_drive z)) → (k : ℕ) (d : PortState) → k < length (row_of ports) → P (get_or (map emu_state (row_of ports)) k d)
  row-each P holds = row-at (λ k s. P s) (λ q low. holds (Some q) low) (holds None tt)

  module _ (pick : ℕ) (images : List PortImage) (seats : List FuseSeat) (cut : AreCutPorts pick (row_of ports) images seats) where
    row-images : (Q : Role → PortState → PortImage → Type 0) → ((role : Role) (p : EmuPort) (i : PortImage) (s : FuseSeat) → IsCutPort pick p i s → Q role (emu_state p) i) → ((q : ℕ) → q < g.queues → Q (Queue q) (port_at row_drive.queues q) (get_or images q no_image)) × Q Root row_drive.root (get_or images g.queues no_image)
    row-images Q holds =
        let long = row-long in (
          λ q low. subst (λ (s : PortState). Q (Queue q) s (get_or images q no_image)) (row-queue q row_drive.root low) (images-at pick (row_of ports) images seats cut (Q (Queue q)) (holds (Queue q)) q row_drive.root no_image (omega (arith, low, long))),
          subst (λ (s : PortState). Q Root s (get_or images g.queues no_image)) (row-root row_drive.root) (images-at pick (row_of ports) images seats cut (Q Root) (holds Root) g.queues row_drive.root no_image (omega (arith, long))),
        )

-- ---- what is left

module _ (x : DriveImage) (ports : Ports EmuPort) (pick : ℕ) (images : List PortImage) (seats : List FuseSeat) (cut : AreCutPorts pick (row_of ports) images seats) (are : ArePorts x.geometry (drive_of emu_state ports)) where
  abbrev g : Geometry
  g = x.geometry

  abbrev e : DriveState
  e = drive_of emu_state ports

  abbrev y : DriveImage
  y = with_ports x images

  left-count : length ports.queues.items ≡ g.queues
  left-count = sym (length-map ports.queues.items emu_state) ∙ are.count

  -- an image of a drive, which is one that a cut may leave
  pub left-drive : IsDrive y
  left-drive =
      let roles = row-images g ports left-count pick images seats cut (λ role s i. IsPortOf g role s → IsImageOf g role i) (λ role p i s one. one.role g role) in
      record {
        ports = images-long pick (row_of ports) images seats cut ∙ row-long g ports left-count;
        queues = λ q low. roles.0 q low (are.each q low);
        root = roles.1 are.root;
      }

  pub left-images : AreImages g e (queue_ports y) (root_port y)
  left-images =
      let held = row-images g ports left-count pick images seats cut (λ role s i. IsImage s i) (λ role p i s one. one.image) in
      record {
        each = λ q low. subst (IsImage (port_at e.queues q)) (sym (queue-in y q low)) (held.0 q low);
        root_is = held.1;
      }

  -- where each port has one image
  left-view : IsQuiescentDrive g e → view_of y ≡ view_over g e
  left-view still =
      let quiet : (z : Option ℕ) → IsZone g z → IsQuiescent (port_in e z) = quiet-in still in
      let only : images ≡ map image_of (e.queues ++ e.root ∷ []) = images-only pick (row_of ports) images seats cut (row-each g ports left-count IsQuiescent quiet) ∙ ap (map image_of) (row-states ports) in
      let pushed : images ≡ map image_of e.queues ++ image_of e.root ∷ [] = only ∙ map_push image_of e.queues e.root in
      let long : length (map image_of e.queues) ≡ g.queues = length-map e.queues image_of ∙ are.count in
      let queues : queue_ports y ≡ map image_of e.queues = ap (take g.queues) pushed ∙ take_at (map image_of e.queues) (image_of e.root ∷ []) g.queues long in
      let root : root_port y ≡ image_of e.root =
      ap (λ (l : List PortImage). get_or l g.queues no_image) pushed
      ∙ get_or-append_right (map image_of e.queues) (image_of e.root ∷ []) g.queues g.queues no_image long (omega arith)
      ∙ ap (λ (k : ℕ). get_or (image_of e.root ∷ []) k no_image) (let z : g.queues - g.queues ≡ 0 = omega arith in z) in
      ap (λ (l : List PortImage). shown journal_reading g l (root_port y)) queues ∙ ap (shown journal_reading g (map image_of e.queues)) root
    where
      quiet-in : IsQuiescentDrive g e → (z : Option ℕ) → IsZone g z → IsQuiescent (port_in e z)
      quiet-in still None zone = still.root.quiet
      quiet-in still (Some q) zone = (still.each q zone).quiet

  module _ (fuse : FuseName) (d : DriveState) (drive : IsDrive x) (start : d ≡ drive_from fuse None x) (bounds : AreBoundsKept g d e) where
    start-at-queue : (q : ℕ) → q < g.queues → (s : PortState) × (port_at d.queues q ≡ s) × (s.fuse ≡ fuse) × (s.fail ≡ None) × (s.doorbell ≡ (view_of x).doorbell q)
    start-at-queue q low =
        let many = queues-count x drive in
        let at = ap (λ (s : DriveState). port_at s.queues q) start ∙ start-at g fuse None 0 (queue_ports x) q (omega (arith, many, low)) in
        (start_of g (Queue (0 + q)) (image_at (queue_ports x) q) fuse None, at, refl, refl, refl)

    left-bound : (z : Option ℕ) → IsZone g z → ((port_in e z).fuse ≡ fuse) × ((port_in e z).fail ≡ None)
    left-bound None zone = (bounds.root.fuse ∙ ap (λ (s : DriveState). s.root.fuse) start, bounds.root.fail ∙ ap (λ (s : DriveState). s.root.fail) start)
    left-bound (Some q) zone =
        let at = start-at-queue q zone in
        let kept = bounds.queues q zone in
        (kept.fuse ∙ ap (λ (s : PortState). s.fuse) at.1 ∙ at.2, kept.fail ∙ ap (λ (s : PortState). s.fail) at.1 ∙ at.3)

    left-own : All (λ s. fuse_of s ≡ fuse) seats
    left-own = seats-own pick (row_of ports) images seats cut fuse (row-each g ports left-count (λ s. s.fuse ≡ fuse) (λ z zone. (left-bound z zone).0))

    left-limited : (l : ℕ) → fuse.limit ≡ Some l → (k : ℕ) (s : PortState) → k < length (row_of ports) → IsLimited l (get_or (map emu_state (row_of ports)) k s)
    left-limited l limit = row-each g ports left-count (IsLimited l) (λ z zone. record { limit = ap (λ (f : FuseName). f.limit) (left-bound z zone).0 ∙ limit; sound = (left-bound z zone).1 })

    module _ (ds : List Descriptor) (top : ℕ) (writes : Writes) (k : ℕ) (made : HasMade x d e ds top writes k) where
      left-happened : (l : ℕ) → fuse.limit ≡ Some l → happened_at l seats ≡ k
      left-happened l limit =
          let rising = made.home_writes.rising in
          let few = few-events x writes top drive rising in
          let most = made.most in
          let tally-is : tally_of e ≡ k =
          ap tally_of (made.events ∙ ap (λ (s : DriveState). after_events g s (take k (recovery_events s writes top))) start)
          ∙ recovery-tally fuse x writes top k drive rising (writes-below g d ds writes made.home_writes) made.most in
          let row = row-tally ports in
          happened-all pick (row_of ports) images seats cut l (left-limited l limit) (omega (arith, few, most, tally-is, row)) ∙ row ∙ tally-is

      left-doorbells : (q : ℕ) → q < g.queues → (view_of y).doorbell q ≡ (view_of x).doorbell q
      left-doorbells q low =
          let still : IsQuiescentDrive g d = subst (IsQuiescentDrive g) (sym start) (start-still fuse None x drive) in
          let stage = each-stage g d writes top k still (writes-below g d ds writes made.home_writes) in
          let kept : (port_at e.queues q).doorbell ≡ (port_at d.queues q).doorbell = ap (λ (s : DriveState). (port_at s.queues q).doorbell) made.events ∙ (stage.0.each (Some q) low).doorbell in
          let at = start-at-queue q low in
          (left-images.each q low).doorbell ∙ kept ∙ ap (λ (s : PortState). s.doorbell) at.1 ∙ at.4

    start-sees : view_over g d ≡ view_of x
    start-sees = ap (view_over g) start ∙ start-view fuse None x

    -- a recovery that is done
    left-home : (found : Recovered) (done : HasRecovered g d found.prefix found.base e) → IsAllHome x done.ds found.base y
    left-home found done =
        let view = left-view done.recovered.still in
        record {
          homes = λ b low. ap (λ (i : Shown). i.home b) view ∙ done.recovered.homes b low ∙ ap (λ (i : Shown). stands g i done.ds b) start-sees;
          base = ap (λ (i : Shown). i.base) view ∙ done.recovered.base;
          heads = λ q low.
              let at = start-at-queue q low in
              let moved = done.recovered.heads q low in
              ap (λ (i : Shown). i.head q) view ∙ (view-seen g e q e.root.base refl).head_is ∙ moved.head ∙ moved.doorbell ∙ ap (λ (s : PortState). s.doorbell) at.1 ∙ at.4;
          again = subst (λ (i : Shown). IsReadPrefix g i [] found.base) (sym view) done.again;
        }

    -- one that was cut
    left-standing : (short : IsCutShort g Off d e) → IsStillStanding x short.ds short.top y
    left-standing short =
        let at = short.stands (queue_ports y) (root_port y) left-images in
        record {
          left = at.0;
          read = at.1;
          over = ⊎_elim (λ same. inl (same.0 ∙ ap (λ (s : DriveState). s.root.base) start, same.1)) (λ raised. inr raised) at.2;
          alike = λ b low. at.3 b low ∙ ap (λ (i : Shown). stands g i short.ds b) start-sees;
        }

    -- the power of one port went off
    left-off : (old : Ports EmuPort) (port : Option ℕ) → AreSound g old → length old.queues.items ≡ g.queues → OneGains port PowerOff (faults_on emu_faults old) (faults_on emu_faults ports) → (l : ℕ) × (fuse.limit ≡ Some l) × (s : FuseSeat) × Contains seats s × (0 < above l (tickets_of s))
    left-off old port sound before gains =
        let h = has-gained g PowerOff old ports port sound left-count before gains in
        let fuses : (emu_state h.port).fuse.limit ≡ fuse.limit = ap (λ (s : PortState). s.fuse.limit) (sym h.state) ∙ ap (λ (f : FuseName). f.limit) (left-bound h.zone h.own).0 in
        let seat = seat-of pick (row_of ports) images seats cut h.index h.port h.at in
        limited h.port seat.0 seat.1 seat.2 h.gains fuse.limit fuses refl
      where
        limited : (p : EmuPort) (s : FuseSeat) → Contains seats s → tickets_of s ≡ drawn_by p → Gains PowerOff [] (emu_faults p) → (limit : Option ℕ) → (emu_state p).fuse.limit ≡ limit → fuse.limit ≡ limit → (l : ℕ) × (fuse.limit ≡ Some l) × (s : FuseSeat) × Contains seats s × (0 < above l (tickets_of s))
        limited p s has tickets gains None own is = absurd (off_unlimited [] p.device.value gains own)
        limited p s has tickets gains (Some l) own is = (l, is, s, has, subst (λ (ts : List ℕ). 0 < above l ts) (sym tickets) (off_above [] p.device.value l gains own))

    -- what a recovery left
    left-by : (old : Ports EmuPort) (found : Recovered) (whole : Bool) → AreSound g old → length old.queues.items ≡ g.queues → HasRun g d e (faults_on emu_faults old) (faults_on emu_faults ports) found whole → IsLeftBy x fuse found whole images seats
    left-by old found true sound before run =
        let done = run.0 in
        let made = done-made x fuse d e found start done in
        let n = events_of x done.writes found.base in
        record {
          ds = done.ds;
          top = found.base;
          writes = done.writes;
          plan = made-plan x fuse d e done.ds found.base done.writes n start made;
          prefix = done.prefix_is;
          base = refl;
          drive = left-drive;
          doorbells = left-doorbells done.ds found.base done.writes n made;
          own = left-own;
          count = seats-long pick (row_of ports) images seats cut ∙ row-long g ports left-count;
          ends = (left-happened done.ds found.base done.writes n made, left-home found done);
        }
    left-by old found false sound before run =
        let short = run.0 in
        let both = short-made x fuse d e start short in
        let k = short.events.0 in
        let off = left-off old run.3 sound before run.4 in
        let happened = left-happened short.ds short.top short.writes k both.1 off.0 off.1 in
        let less = both.0 in
        record {
          ds = short.ds;
          top = short.top;
          writes = short.writes;
          plan = made-plan x fuse d e short.ds short.top short.writes k start both.1;
          prefix = run.1;
          base = run.2;
          drive = left-drive;
          doorbells = left-doorbells short.ds short.top short.writes k both.1;
          own = left-own;
          count = seats-long pick (row_of ports) images seats cut ∙ row-long g ports left-count;
          ends = (off.0, off.1, off.2, off.3, off.4, omega (arith, happened, less), left-standing short);
        }

run-ports : (g : Geometry) (d e : DriveState) (before after : DriveFaults) (found : Recovered) (whole : Bool) → HasRun g d e before after found whole → ArePorts g e
run-ports g d e before after found true run = still-ports g e run.0.recovered.still
run-ports g d e before after found false run = run.0.ports

-- the same under another name of the geometry
pub left-under : (g : Geometry) (x : DriveImage) (fuse : FuseName) (old ports : Ports EmuPort) (found : Recovered) (whole : Bool) (pick : ℕ) (images : List PortImage) (seats : List FuseSeat) → g ≡ x.geometry → IsDrive x → AreStarted fuse None x old
    → HasRun g (drive_of emu_state old) (drive_of emu_state ports) (faults_on emu_faults old) (faults_on emu_faults ports) found whole → AreBoundsKept g (drive_of emu_state old) (drive_of emu_state ports) → AreCutPorts pick (row_of ports) images seats → IsLeftBy x fuse found whole images seats
left-under g x fuse old ports found whole pick images seats same drive started run bounds cut =
    let d = drive_of emu_state old in
    let e = drive_of emu_state ports in
    let ran = subst (λ (h : Geometry). HasRun h d e (faults_on emu_faults old) (faults_on emu_faults ports) found whole) same run in
    let many : length old.queues.items ≡ x.geometry.queues = sym (length-map old.queues.items emu_state) ∙ ap (λ (s : DriveState). length s.queues) started.states ∙ (start-still fuse None x drive).count in
    left-by x ports pick images seats cut (run-ports x.geometry d e (faults_on emu_faults old) (faults_on emu_faults ports) found whole ran) fuse d drive started.states (subst (λ (h : Geometry). AreBoundsKept h d e) same bounds)
    old found whole (started-sound x.geometry fuse x old refl drive started) many ran

-- ---- what a recovery answers

ports-count : (g : Geometry) (old new : Ports EmuPort) → IsQuiescentDrive g (drive_of emu_state old) → length new.queues.items ≡ length old.queues.items → (length new.queues.items ≡ g.queues) × (length old.queues.items ≡ g.queues)
ports-count g old new still count =
    let before : length old.queues.items ≡ g.queues = sym (length-map old.queues.items emu_state) ∙ still.count in
    (count ∙ before, before)

-- no home write fails
pub never-failed : (g : Geometry) (old new : Ports EmuPort) (r : RecoverRefusal) → IsQuiescentDrive g (drive_of emu_state old) → AreSound g old → AreBoundsKept g (drive_of emu_state old) (drive_of emu_state new) → length new.queues.items ≡ length old.queues.items
    → HasDriveCause {A = Recovered} g (Err r) (faults_on emu_faults old) (faults_on emu_faults new) → (block status : ℕ) → r ≡ Failed block status → ⊥
never-failed g old new r still sound bounds count cause block status is =
    let gains : OneGains (zone_of g block) (HomeError (home_lba g block) status) (faults_on emu_faults old) (faults_on emu_faults new) =
    subst (λ (s : RecoverRefusal). HasDriveCause {A = Recovered} g (Err s) (faults_on emu_faults old) (faults_on emu_faults new)) is cause in
    let both = ports-count g old new still count in
    none-failed g old new (zone_of g block) (home_lba g block) status sound bounds both.0 both.1 gains

-- a recovery that its power cut finds what was looked up before
pub ran-short : (g : Geometry) (d e : DriveState) (before after : DriveFaults) (found : Recovered) (r : RecoverRefusal) → r ≡ Off → Finds g d found → OnDrive {A = Recovered} (Err r) (λ f. IsCutShort g f d e) → HasDriveCause {A = Recovered} g (Err r) before after
    → HasRun g d e before after found false
ran-short g d e before after found r is finds drive cause =
    let short : IsCutShort g Off d e = subst (λ (f : RecoverRefusal). OnDrive {A = Recovered} (Err f) (λ f. IsCutShort g f d e)) is drive in
    let gains : (port : Option ℕ) × OneGains port PowerOff before after = subst (λ (f : RecoverRefusal). HasDriveCause {A = Recovered} g (Err f) before after) is cause in
    let same = read-same g (view_over g d) finds.ds short.ds found.base short.top finds.read short.read in
    (short, finds.prefix_is ∙ ap length same.0, same.1, gains.0, gains.1)

-- ---- the answer

abbrev cut_by : Bool → ℕ → Option ℕ
cut_by whole events = if whole then None else Some events

pub none-whole : (whole : Bool) (events : ℕ) → is_none (cut_by whole events) ≡ whole
none-whole true events = refl
none-whole false events = refl

abbrev answer_of : Geometry → List PortImage → Recovered → Option ℕ → RecoveredImage
answer_of g images found cut = record { image = record { geometry = g; ports = images }; found = found; cut = cut }

module _ (x : DriveImage) (limit : Option ℕ) (fuse : FuseName) (found : Recovered) (images : List PortImage) (seats : List FuseSeat) (events : ℕ) (is : fuse.limit ≡ limit) (happened : (l : ℕ) → fuse.limit ≡ Some l → events ≡ happened_at l seats) (most : (l : ℕ) → fuse.limit ≡ Some l → events ≤ l)
    (off : (l : ℕ) (s : FuseSeat) → fuse.limit ≡ Some l → Contains seats s → 0 < above l (tickets_of s) → events ≡ l) where
  ends-as : (whole : Bool) (ds : List Descriptor) (top n : ℕ) → EndsBy x ds top n fuse.limit whole (with_ports x images) seats → EndsAs x ds top n limit (cut_by whole events) (with_ports x images)
  ends-as true ds top n ends = (within, ends.1)
    where
      within : ForSome limit (λ k. n ≤ k)
      within k same =
          let own : fuse.limit ≡ Some k = is ∙ same in
          let a = ends.0 k own in
          let b = happened k own in
          let c = most k own in
          omega (arith, a, b, c)
  ends-as false ds top n ends =
      let l = ends.0 in
      let all : events ≡ l = off l ends.2 ends.1 ends.3 ends.4 in
      let few = happened l ends.1 in
      let less = ends.5 in
      (sym is ∙ ends.1 ∙ ap (λ (k : ℕ). Some k) (sym all), omega (arith, few, less), ends.6)

  pub answers : (g : Geometry) (whole : Bool) (cut : Option ℕ) → g ≡ x.geometry → cut ≡ cut_by whole events → All HasWidths images → IsLeftBy x fuse found whole images seats → IsRecoveryOf x limit (answer_of g images found cut)
  answers g whole cut same cut-is widths left =
      subst (λ (h : Geometry). IsRecoveryOf x limit (answer_of h images found cut)) (sym same)
      (subst (λ (c : Option ℕ). IsRecoveryOf x limit (answer_of x.geometry images found c)) (sym cut-is) (record {
        ds = left.ds;
        top = left.top;
        writes = left.writes;
        plan = left.plan;
        prefix = left.prefix;
        base = left.base;
        drive = left.drive;
        widths = widths;
        geometry = refl;
        doorbells = left.doorbells;
        ends = ends-as whole left.ds left.top (events_of x left.writes left.top) left.ends;
      }))
