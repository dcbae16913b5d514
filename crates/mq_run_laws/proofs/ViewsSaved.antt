-- What a run of scripts on an image leaves.
use Rattle.std.proofs.Common.{◌≡◌, ◌<◌, ◌∙◌, ℕ, List, Option, None, Some, sym, ap, subst}
use Rattle.std.specs.Prelude.{Err, Ok, Result}
use Rattle.mq_blocks.specs.Journal.{Shown, shown}
use Rattle.mq_blocks.specs.Geometry.{queues_of}
use Rattle.mq_blocks.specs.declared.geometry.Geometry.{Geometry}
use Rattle.mq_calls.specs.Opening.{MayOpen}
use Rattle.mq_journal.specs.declared.refusal.CheckpointRefusal.{CheckpointRefusal}
use Rattle.mq_journal.specs.declared.refusal.CheckpointRefusal.TheVariants as checkpoint
use Rattle.mq_drive.specs.Emu.{emu_faults, emu_state}
use Rattle.mq_drive.specs.declared.emu.EmuPort.{EmuPort}
use Rattle.mq_image.specs.Drives as file
use Rattle.mq_image.specs.Faults.{HasFault}
use Rattle.mq_image.specs.File.{DriveImage, image_bytes, queue_ports, root_port}
use Rattle.mq_image.proofs.FileForms.{formed-drive, formed-good}
use Rattle.mq_image_run.specs.Drives.{IsDriven, emu_ghosts}
use Rattle.mq_run_laws.specs.Runs.{IsLast, IsRunOf}
use Rattle.mq_run_laws.specs.Endings.{drive_options, finishes}
use Rattle.mq_run_laws.specs.Played.{PlaysScripts, with_told}
use Rattle.mq_run_laws.specs.declared.options.Ending.{Ending}
use Rattle.mq_run_laws.specs.declared.options.Ending.TheVariants as ending
use Rattle.mq_run_laws.specs.declared.options.RunOptions.{RunOptions}
use Rattle.mq_run_laws.specs.declared.ran.ImageRun.{ImageRun}
use Rattle.mq_image_ops.specs.Cuts.{with_ports}
use Rattle.mq_image_ops.specs.Standing.{AreStanding}
use Rattle.mq_image_ops.specs.Views.{view_of}
use Rattle.mq_image_ops.proofs.CutsRecoverings.{left-images}
use Rattle.mq_image_ops.proofs.StandingRestarts.{blocks-stand, doorbells-kept, none-above}
use Rattle.mq_ledger.specs.State.{port_at}
use Rattle.mq_run_laws.specs.Answers.{AreAnswered}
use Rattle.mq_run_laws.specs.Cuts.{IsClean, IsCut, IsRung, Starts}
use Rattle.mq_run_laws.specs.Histories.{AreOfBytes}
use Rattle.mq_run_laws.specs.Legal.{IsLegal, newest, volume_at}
use Rattle.mq_nvme.specs.Says.{journal_reading}
use Rattle.mq_recover.specs.Drives.{AreImages, drive_of}
use Rattle.mq_recover.specs.Recovery.{IsReadPrefix}
use Rattle.mq_recover.specs.Standing.{StandsIn}
use Rattle.mq_recover.specs.declared.standing.Standing.{Standing}
use Rattle.mq_report.specs.declared.line.Last.{Last}
use Rattle.mq_report.specs.declared.line.Last.TheVariants.{Clean}
use Rattle.mq_run.specs.Runs.{HasRunScripts}
use Rattle.mq_run.specs.declared.end.RunEnd.{RunEnd}
use Rattle.mq_script.specs.Scripts.{Script}
use Rattle.mq_queue_side.specs.declared.answers.Cause.TheVariants as cause
use Rattle.mq_tree.specs.Laid.{IsLaid, map_of}
use Rattle.mq_tree.specs.Volume.{Volume}
use Rattle.mq_run_laws.specs.Recovering.{HoldsVolume, LeadsTo}
use Rattle.mq_run_laws.proofs.AnswersGiven.{are-answered}
use Rattle.mq_run_laws.proofs.CutsClean.{is-clean}
use Rattle.mq_run_laws.proofs.Cuts.{is-cut}
use Rattle.mq_image_ops.proofs.ViewsFiles.{file-shows}
use Rattle.mq_run_laws.proofs.Recovering.{holds-volume}
use Rattle.mq_run_laws.proofs.HistoriesRung.{is-rung}
use Rattle.mq_run_laws.proofs.RunsWhole.{legal}

-- a run is reported as clean only where the checkpoint at the end answered this number
told-clean : (e : Ending) (events : ℕ) (finished : Option (Result ℕ CheckpointRefusal)) (last : Last) (n : ℕ) → IsLast e events finished last → last ≡ Clean n → finished ≡ Some (Ok n)
told-clean (ending.Cut k) events finished last n is told = absurd (cc)
told-clean ending.Sessions events finished last n is told = absurd (cc)
told-clean ending.Checkpoint events (Some (Ok m)) last n is told = let same : Clean m ≡ Clean n = sym is ∙ told in cc
told-clean ending.Checkpoint events (Some (Err (checkpoint.Drive cause.Off))) last n is told = absurd is
told-clean ending.Checkpoint events (Some (Err (checkpoint.Drive (cause.Failed tx status)))) last n is told = absurd (cc)
told-clean ending.Checkpoint events (Some (Err (checkpoint.Drive (cause.FailedHome block status)))) last n is told = absurd (cc)
told-clean ending.Checkpoint events (Some (Err (checkpoint.Drive (cause.Stopped tx why)))) last n is told = absurd (cc)
told-clean ending.Checkpoint events (Some (Err checkpoint.OutOfMemory)) last n is told = absurd is
told-clean ending.Checkpoint events None last n is told = absurd is

module _ (x : DriveImage) (scripts : List Script) (o : RunOptions) (r : ImageRun) (run : IsRunOf x scripts o r) (bytes : AreOfBytes scripts) where
  abbrev pub g : Geometry
  g = x.geometry

  abbrev drives : IsDriven (PlaysScripts g scripts (finishes o.ending)) run.on.fuse run.on.recovered.image (drive_options o) run.played r.failed r.image.ports run.on.stops.seats
  drives = run.on.stops.drives

  abbrev pub standing : Standing
  standing = drives.plays.standing

  abbrev pub end : RunEnd EmuPort
  end = with_told drives.plays.rest drives.end run.played

  same : run.on.recovered.image.geometry ≡ g
  same = run.on.recovery.geometry

  pub ran : HasRunScripts emu_ghosts emu_state emu_faults g run.on.stops.drives.ports standing scripts (finishes o.ending) end
  ran = drives.plays.ran

  pub opens : MayOpen g (drive_of emu_state run.on.stops.drives.ports) standing
  opens = drives.plays.opens

  abbrev pub volume : Volume
  volume = opens.mounts.0

  pub laid : IsLaid g (map_of g standing.blocks.items) volume
  laid = opens.mounts.1

  -- ---- where the run starts

  stood : StandsIn g (drive_of emu_state run.on.stops.drives.ports) standing
  stood = drives.plays.stands

  blocks : AreStanding x run.on.recovery.ds standing.blocks.items
  blocks = blocks-stand x run.on.recovered run.on.fuse o.fail run.on.stops.drives.ports run.on.recovery run.on.stops.drives.started standing stood

  pub base-is : standing.base ≡ r.base
  base-is = (none-above x run.on.recovered run.on.fuse o.fail run.on.stops.drives.ports run.on.recovery run.on.stops.drives.started standing stood).1 ∙ sym run.on.base_is

  pub starts : Starts g (view_of x) r.base volume
  starts = record {
    ds = run.on.recovery.ds;
    read = subst (λ (n : ℕ). IsReadPrefix g (view_of x) run.on.recovery.ds n) (sym (run.on.base_is ∙ run.on.recovery.base)) run.on.recovery.plan.read;
    stored = standing.blocks.items;
    standing = record { whole = blocks.count; each = blocks.each };
    laid = laid;
  }

  -- ---- what it reports

  pub entries-are : end.entries ≡ r.entries
  entries-are = sym run.entries

  pub answers-are : end.answers ≡ r.answers
  answers-are = sym run.answers

  pub legal-list : IsLegal g scripts volume r.base r.entries.items
  legal-list =
      let is = legal emu_ghosts emu_state emu_faults g run.on.stops.drives.ports standing scripts (finishes o.ending) end ran run.short volume bytes laid in
      subst (λ (b : ℕ). IsLegal g scripts volume b r.entries.items) base-is (subst (λ es. IsLegal g scripts volume standing.base es.items) entries-are is)

  pub answered : AreAnswered scripts r.entries.items r.answers.items
  answered =
      let is = are-answered emu_ghosts emu_state emu_faults g run.on.stops.drives.ports standing scripts (finishes o.ending) end ran run.short in
      subst (λ told. AreAnswered scripts r.entries.items told.items) answers-are (subst (λ es. AreAnswered scripts es.items end.answers.items) entries-are is)

  -- ---- what it leaves

  abbrev left : DriveImage
  left = with_ports run.on.recovered.image r.image.ports

  image-is : left ≡ r.image
  image-is = λ i. record { geometry = (same ∙ sym run.on.geometry) i; ports = r.image.ports }

  pub images : AreImages g (drive_of emu_state end.ports) (queue_ports r.image) (root_port r.image)
  images =
      let of_left = left-images run.on.recovered.image end.ports o.pick r.image.ports run.on.stops.seats drives.cut drives.kept.same_ports in
      let of_image : AreImages r.image.geometry (drive_of emu_state end.ports) (queue_ports r.image) (root_port r.image) = subst (λ (y : DriveImage). AreImages y.geometry (drive_of emu_state end.ports) (queue_ports y) (root_port y)) image-is of_left in
      subst (λ (z : Geometry). AreImages z (drive_of emu_state end.ports) (queue_ports r.image) (root_port r.image)) run.on.geometry of_image

  -- what the image shows, by the geometry of the old one
  abbrev pub seen : Shown
  seen = shown journal_reading g (queue_ports r.image) (root_port r.image)

  pub seen-is : seen ≡ view_of r.image
  seen-is = ap (λ (z : Geometry). shown journal_reading z (queue_ports r.image) (root_port r.image)) (sym run.on.geometry)

  pub is-a-cut : (k : ℕ) × IsCut g scripts volume r.base r.entries.items r.answers.items (view_of r.image) k
  is-a-cut =
      let is = is-cut emu_ghosts emu_state emu_faults g run.on.stops.drives.ports standing scripts (finishes o.ending) end ran volume (queue_ports r.image) (root_port r.image) run.short bytes laid images in (
        is.0,
        subst (λ (i : Shown). IsCut g scripts volume r.base r.entries.items r.answers.items i is.0) seen-is
            (subst (λ told. IsCut g scripts volume r.base r.entries.items told.items seen is.0) answers-are
            (subst (λ es. IsCut g scripts volume r.base es.items end.answers.items seen is.0) entries-are
            (subst (λ (b : ℕ). IsCut g scripts volume b end.entries.items end.answers.items seen is.0) base-is is.1))),
      )

  -- ---- its doorbells

  old-bell : (q : ℕ) → q < queues_of g → (port_at (drive_of emu_state run.on.stops.drives.ports).queues q).doorbell ≡ (view_of x).doorbell q
  old-bell q own = doorbells-kept x run.on.recovered run.on.fuse o.fail run.on.stops.drives.ports run.on.recovery run.on.stops.drives.started q own

  new-bell : (q : ℕ) → q < queues_of g → (port_at (drive_of emu_state end.ports).queues q).doorbell ≡ (view_of r.image).doorbell q
  new-bell q own = sym (images.each q own).doorbell ∙ ap (λ (i : Shown). i.doorbell q) seen-is

  pub rung : (q : ℕ) → q < queues_of g → IsRung g scripts volume r.entries.items r.answers.items q ((view_of x).doorbell q) ((view_of r.image).doorbell q)
  rung q own =
      let is = is-rung emu_ghosts emu_state emu_faults g run.on.stops.drives.ports standing scripts (finishes o.ending) end ran run.short q own volume bytes laid in
      subst (λ (n : ℕ). IsRung g scripts volume r.entries.items r.answers.items q ((view_of x).doorbell q) n) (new-bell q own)
      (subst (λ (n : ℕ). IsRung g scripts volume r.entries.items r.answers.items q n (port_at (drive_of emu_state end.ports).queues q).doorbell) (old-bell q own)
      (subst (λ told. IsRung g scripts volume r.entries.items told.items q (port_at (drive_of emu_state run.on.stops.drives.ports).queues q).doorbell (port_at (drive_of emu_state end.ports).queues q).doorbell) answers-are
      (subst (λ es. IsRung g scripts volume es.items end.answers.items q (port_at (drive_of emu_state run.on.stops.drives.ports).queues q).doorbell (port_at (drive_of emu_state end.ports).queues q).doorbell) entries-are is)))

  finished-is : (n : ℕ) → r.last ≡ Clean n → end.finished ≡ Some (Ok n)
  finished-is n told = told-clean o.ending run.events run.played.finished r.last n run.last told

  pub cleaned : (n : ℕ) → r.last ≡ Clean n → (n ≡ newest r.base r.entries.items) × IsClean g (view_of r.image) n
  cleaned n told =
      let is = is-clean emu_ghosts emu_state emu_faults g run.on.stops.drives.ports standing scripts (finishes o.ending) end n ran (finished-is n told) (queue_ports r.image) (root_port r.image) run.short images in (
        is.0 ∙ (ap (λ (b : ℕ). newest b end.entries.items) base-is ∙ ap (λ es. newest r.base es.items) entries-are),
        subst (λ (i : Shown). IsClean g i n) seen-is is.1,
      )

  -- ---- its file

  pub file-whole : HasFault (image_bytes r.image) None
  file-whole = formed-good 2 (queue_ports r.image) (root_port r.image) r.image (image_bytes r.image) (formed-drive r.image run.on.drive run.on.widths)

  -- what is read of the file reaches the same, and recovery of it leaves the volume
  file-cut : (z : DriveImage) → file.IsRead z (image_bytes r.image) → IsCut g scripts volume r.base r.entries.items r.answers.items (view_of z) is-a-cut.0
  file-cut z read = subst (λ (i : Shown). IsCut g scripts volume r.base r.entries.items r.answers.items i is-a-cut.0) (sym (file-shows r.image z run.on.drive run.on.widths read).1) is-a-cut.1

  pub file-recovered : (y z : DriveImage) → file.IsRead z (image_bytes r.image) → LeadsTo y z → HoldsVolume g y (volume_at g scripts volume r.entries.items is-a-cut.0)
  file-recovered y z read leads =
      let is = file-cut z read in
      let same : z.geometry ≡ g = (file-shows r.image z run.on.drive run.on.widths read).0 ∙ run.on.geometry in
      holds-volume y z g is.ds is.top (volume_at g scripts volume r.entries.items is-a-cut.0) same is.read is.stand leads
