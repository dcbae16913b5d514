-- What a run of groups leaves of its image, by how the history of its desk follows what is told.
use Rattle.std.proofs.Common.{◌≡◌, ◌≢◌, ◌⊎◌, ◌<◌, ◌≤◌, ◌∙◌, ℕ, ◌+◌, Bool, cond, List, [], ◌∷◌, length, map, Option, None, Some, inl, inr, refl, sym, ap, subst, arith}
use Rattle.std.specs.Prelude.{Err, Ok, Result}
use Rattle.std.proofs.lemmas.Bool.{lt-ltb}
use Rattle.mq_blocks.specs.Blocks.{block_at, content}
use Rattle.mq_blocks.specs.Drive.{IsImage, PortState}
use Rattle.mq_blocks.specs.Geometry.{meta_of, queues_of}
use Rattle.mq_blocks.specs.Journal.{Shown, image_at, shown}
use Rattle.mq_blocks.specs.declared.geometry.Geometry.{Geometry}
use Rattle.mq_journal.specs.Raised.{Raises}
use Rattle.mq_journal.specs.declared.refusal.CheckpointRefusal.{CheckpointRefusal}
use Rattle.mq_desk_laws.specs.Rule.{core_of}
use Rattle.mq_drive.specs.Emu.{emu_faults, emu_state}
use Rattle.mq_drive.specs.declared.emu.EmuPort.{EmuPort}
use Rattle.mq_image.specs.Drives as file
use Rattle.mq_image.specs.File.{DriveImage, image_bytes, queue_ports, root_port}
use Rattle.mq_image.proofs.FileForms.{formed-drive, formed-good}
use Rattle.mq_image_ops.specs.Cuts.{with_ports}
use Rattle.mq_image_ops.specs.Standing.{AreStanding}
use Rattle.mq_image_ops.specs.Views.{view_of}
use Rattle.mq_image_ops.proofs.CutsRecoverings.{left-images}
use Rattle.mq_image_ops.proofs.StandingRestarts.{blocks-stand, doorbells-kept, none-above}
use Rattle.mq_journal.specs.Numbers.{Shared}
use Rattle.mq_journal.specs.Values.{side_values}
use Rattle.mq_kv_buckets.specs.declared.operation.KvOp.{KvOp}
use Rattle.mq_kv_entries.proofs.Entries.{meta-home}
use Rattle.mq_kv_entries.specs.Group.{store_group}
use Rattle.mq_kv_entries.specs.declared.entry.KvEntry.{KvEntry}
use Rattle.mq_sessions.proofs.Members.{cons-here}
use Rattle.mq_image_run.specs.Drives.{IsDriven, emu_ghosts}
use Rattle.mq_kv_run.specs.Drives.{PlaysGroups, with_told}
use Rattle.mq_kv_run.specs.Endings.{drive_options, finishes}
use Rattle.mq_kv_run.specs.Groups.{Point}
use Rattle.mq_kv_run.specs.Played.{EndsBy, HasRunStore}
use Rattle.mq_kv_run.specs.Promise.{IsCleanAt, IsCutAt, first_point}
use Rattle.mq_kv_run.specs.Recovering.{HoldsHome, LeadsTo}
use Rattle.mq_kv_run.specs.Runs.{IsLast, IsRunOf}
use Rattle.mq_kv_run.specs.declared.options.KvOptions.{KvOptions}
use Rattle.mq_kv_run.specs.declared.ran.KvRun.{KvRun}
use Rattle.mq_kv_run.specs.declared.storing.StoreEnd.{StoreEnd}
use Rattle.mq_kv_text.specs.declared.report.LastLine.{LastLine}
use Rattle.mq_kv_text.specs.declared.report.LastLine.TheVariants.{Clean}
use Rattle.mq_kv_run.specs.Images.{LeavesImage, desk_of, seat_of}
use Rattle.mq_kv_run.specs.Trails.{FollowsTold, IsPointAt}
use Rattle.mq_kv_run.proofs.ImageClean as clean
use Rattle.mq_kv_run.proofs.ImageCuts as cuts
use Rattle.mq_kv_run.proofs.ImageEnds as at_end
use Rattle.mq_kv_run.proofs.ImageRecovering.{holds-home}
use Rattle.mq_kv_run.proofs.ImageRings as rings
use Rattle.mq_kv_run.proofs.ImageSeen.{played-seen}
use Rattle.mq_ledger.specs.KnownJournal.{front}
use Rattle.mq_ledger.specs.State.{port_at}
use Rattle.mq_nvme.specs.Says.{journal_reading}
use Rattle.mq_recover.specs.Drives.{AreImages, drive_of, states}
use Rattle.mq_recover.specs.declared.standing.Standing.{Standing}
use Rattle.mq_image_ops.proofs.ViewsFiles.{file-shows}
use Rattle.mq_tie.specs.Runs.{ports_of}
use Rattle.mq_tie.specs.declared.ended.Ended.{Ended}

-- a run is reported as clean only where no cut was asked for and the checkpoint at the end answered this number
told-clean : (cut : Option ℕ) (events : ℕ) (finished : Option (Result ℕ CheckpointRefusal)) (last : LastLine) (n : ℕ) → IsLast cut events finished last → last ≡ Clean n → (cut ≡ None) × (finished ≡ Some (Ok n))
told-clean (Some k) events finished last n is told = absurd (cc)
told-clean None events (Some (Ok m)) last n is told = (refl, (let same : Clean m ≡ Clean n = sym is ∙ told in cc))
told-clean None events (Some (Err why)) last n is told = absurd is
told-clean None events None last n is told = absurd is

none-off : (off : Option (List KvOp)) (cut : Option ℕ) → (off ≢ None → (k : ℕ) × (cut ≡ Some k)) → cut ≡ None → off ≡ None
none-off None cut power none = refl
none-off (Some ops) cut power none = let gone = power (λ e. let is : Some ops ≡ None = e in cc) in absurd (let is : None ≡ Some gone.0 = sym none ∙ gone.1 in cc)

module _ (x : DriveImage) (groups : List (List KvOp)) (o : KvOptions) (r : KvRun) (run : IsRunOf x groups o r) where
  abbrev h : Geometry
  h = x.geometry

  abbrev drives : IsDriven (PlaysGroups x.geometry groups (finishes o.cut)) run.on.fuse run.on.recovered.image (drive_options o) run.played run.failed r.image.ports run.on.stops.seats
  drives = run.on.stops.drives

  abbrev end : StoreEnd EmuPort
  end = with_told drives.end run.played

  abbrev standing : Standing
  standing = drives.plays.standing

  abbrev ran : HasRunStore emu_ghosts emu_state emu_faults h drives.ports standing groups (finishes o.cut) end
  ran = drives.plays.ran

  abbrev ended : Ended EmuPort KvEntry emu_ghosts
  ended = ran.run.left

  abbrev K : Shared EmuPort KvEntry emu_ghosts
  K = desk_of x groups o r run

  -- ---- where the run starts

  blocks : AreStanding x run.on.recovery.ds standing.blocks.items
  blocks = blocks-stand x run.on.recovered run.on.fuse None drives.ports run.on.recovery drives.started standing
      drives.plays.stands

  started-at : standing.base ≡ run.on.recovery.top
  started-at = (none-above x run.on.recovered run.on.fuse None drives.ports run.on.recovery drives.started standing
      drives.plays.stands).1 ∙ run.on.recovery.base

  -- the first point stands before all groups
  pub first-at : IsPointAt emu_state emu_faults h K [] (first_point x run.on.recovery.ds run.on.recovery.top)
  first-at = record {
    number =
        let base = at_end.base-is emu_ghosts emu_state emu_faults h drives.ports standing ran.opening (ran.run.last ∷ []) ended ran.opened ran.run.closed in
        let top = started-at in
        omega arith;
    each = λ b low.
        let first = at_end.start-is emu_ghosts emu_state emu_faults h drives.ports standing ran.opening (ran.run.last ∷ []) ended ran.opened ran.run.closed b in
        let there_is = first ∙ ap (λ (t : Bool). cond t (Some (block_at standing.blocks.items b)) None) (lt-ltb b (meta_of h) low) in
        sym (blocks.each b (meta-home h b low)) ∙ sym (ap content there_is);
    entries = refl;
  }

  -- ---- what it leaves

  abbrev left : DriveImage
  left = with_ports run.on.recovered.image r.image.ports

  image-is : left ≡ r.image
  image-is = λ i. record { geometry = (run.on.recovery.geometry ∙ sym run.on.geometry) i; ports = r.image.ports }

  images : AreImages h (drive_of emu_state end.ports) (queue_ports r.image) (root_port r.image)
  images =
      let of_left = left-images run.on.recovered.image end.ports o.pick r.image.ports run.on.stops.seats drives.cut drives.kept.same_ports in
      let of_image : AreImages r.image.geometry (drive_of emu_state end.ports) (queue_ports r.image) (root_port r.image) = subst (λ (y : DriveImage). AreImages y.geometry (drive_of emu_state end.ports) (queue_ports y) (root_port y)) image-is of_left in
      subst (λ (z : Geometry). AreImages z (drive_of emu_state end.ports) (queue_ports r.image) (root_port r.image)) run.on.geometry of_image

  ports-are : map emu_state end.ports.queues.items ≡ map emu_state (ports_of ended)
  ports-are = ap (map emu_state) ran.run.queues

  images-end : AreImages h (states emu_state (ports_of ended) ended.root.port) (queue_ports r.image) (root_port r.image)
  images-end = record {
    each = λ q lt. subst (λ (ps : List PortState). IsImage (port_at ps q) (image_at (queue_ports r.image) q)) ports-are (images.each q lt);
    root_is = subst (λ (p : PortState). IsImage p (root_port r.image)) (ap emu_state ran.run.root) images.root_is;
  }

  abbrev seen : Shown
  seen = shown journal_reading h (queue_ports r.image) (root_port r.image)

  seen-is : seen ≡ view_of r.image
  seen-is = ap (λ (z : Geometry). shown journal_reading z (queue_ports r.image) (root_port r.image)) (sym run.on.geometry)

  -- ---- its doorbells

  old-bell : (q : ℕ) → q < queues_of x.geometry → (port_at (drive_of emu_state drives.ports).queues q).doorbell ≡ (view_of x).doorbell q
  old-bell q own = doorbells-kept x run.on.recovered run.on.fuse None drives.ports run.on.recovery drives.started q own

  new-bell : (q : ℕ) → q < queues_of h → (view_of r.image).doorbell q ≡ (port_at (map emu_state (ports_of ended)) q).doorbell
  new-bell q own = sym (ap (λ (i : Shown). i.doorbell q) seen-is) ∙ (images-end.each q own).doorbell

  -- ---- the end of the session

  raises : (n : ℕ) → o.cut ≡ None → run.played.finished ≡ Some (Ok n) → Raises emu_state emu_faults store_group n ran.run.between ran.run.last
  raises n none is =
      subst (λ (z : Option ℕ × Option (Result ℕ CheckpointRefusal)). EndsBy emu_state emu_faults (finishes z.0) z.1 ran.run.between ran.run.last)
      (λ i. (none i, is i)) ran.run.ended

  -- ---- by how the history follows what is told

  module _ (last newest : Point) (off : Option (List KvOp)) (follows : FollowsTold emu_state emu_faults h K (seat_of x groups o r run) last off newest) (power : off ≢ None → (k : ℕ) × (o.cut ≡ Some k)) where
    low-at : (last.number ≤ ran.run.last.reading.done) ⊎ (last.number ≡ K.opening.base) → last.number ≤ K.opening.base + length K.log → last.number ≤ front (core_of (side_values emu_state emu_faults) store_group K)
    low-at (inl known) under =
        let next_is = ran.run.closed.end.next_is in
        at_end.known-low emu_ghosts emu_state emu_faults h drives.ports standing ran.opening (ran.run.last ∷ []) ended ran.opened ran.run.closed last.number
        (record { low = omega arith; view = ran.run.last; one = cons-here ran.run.last [] ran.run.last refl; done = known })
    low-at (inr first) under = omega arith

    under : last.number ≤ K.opening.base + length K.log
    under = elim follows.newest_is [
      | inl all ↦ (let number = all.1.number in omega arith)
      | inr c ↦ (let number = c.at.number in let long = ap (λ (es : List KvEntry). length es) c.log in omega arith)
    ]

    low : last.number ≤ front (core_of (side_values emu_state emu_faults) store_group K)
    low = low-at follows.done under

    reached : cuts.Reached emu_ghosts emu_state emu_faults h drives.ports standing ran.opening (ran.run.last ∷ []) ended ran.opened ran.run.closed last newest off (queue_ports r.image) (root_port r.image)
    reached = cuts.ends-in-cut emu_ghosts emu_state emu_faults h drives.ports standing ran.opening (ran.run.last ∷ []) ended ran.opened ran.run.closed last newest off (queue_ports r.image) (root_port r.image) low follows.newest_is images-end

    is-cut : IsCutAt x.geometry (view_of r.image) reached.point newest.number
    is-cut =
        subst (λ (i : Shown). IsCutAt h i reached.point newest.number) seen-is reached.cut

    some-queue : 0 < queues_of h
    some-queue = let some = h.queues_low in omega arith

    rung : rings.Rung emu_ghosts emu_state emu_faults h drives.ports standing ran.opening (ran.run.last ∷ []) ended ran.opened ran.run.closed some-queue follows.own last off
    rung = rings.is-rung emu_ghosts emu_state emu_faults h drives.ports standing ran.opening (ran.run.last ∷ []) ended ran.opened ran.run.closed some-queue follows.own last newest off low follows.newest_is

    cleaned : (n : ℕ) → r.report.last ≡ Clean n → (n ≡ last.number) × (off ≡ None) × IsCleanAt x.geometry (view_of r.image) n
    cleaned n told =
        let e = told-clean o.cut run.events run.played.finished r.report.last n run.last told in
        let rise = raises n e.0 e.1 in
        let grown = played-seen emu_state emu_faults h 0 groups end.reports.items _ ran.run.between ran.run.played in
        let number = clean.last emu_ghosts emu_state emu_faults h drives.ports standing ran.opening ran.run.last ended ran.opened ran.run.closed ran.run.between n rise grown in
        let is = clean.is-clean emu_ghosts emu_state emu_faults h drives.ports standing ran.opening ran.run.last ended ran.opened ran.run.closed ran.run.between n rise grown (queue_ports r.image) (root_port r.image) images-end in
        let none = none-off off o.cut power e.0 in (
          elim follows.newest_is [
            | inl all ↦ (let own = all.1.number in omega arith)
            | inr c ↦ absurd (let no : None ≡ Some c.ops = sym none ∙ c.off_is in cc)
          ],
          none,
          subst (λ (i : Shown). IsCleanAt h i n) seen-is is,
        )

    file-recovered : (y z : DriveImage) → file.IsRead z (image_bytes r.image) → LeadsTo y z → HoldsHome x.geometry y reached.point.map
    file-recovered y z read leads =
        let shows = file-shows r.image z run.on.drive run.on.widths read in
        let cut : IsCutAt x.geometry (view_of z) reached.point newest.number = subst (λ (i : Shown). IsCutAt x.geometry i reached.point newest.number) (sym shows.1) is-cut in
        holds-home y z x.geometry cut.ds cut.top reached.point.map (shows.0 ∙ run.on.geometry) cut.read cut.each leads

    pub leaves : LeavesImage x r last off newest
    leaves = record {
      reached = reached.point;
      at = reached.at;
      cut = is-cut;
      file = formed-good 2 (queue_ports r.image) (root_port r.image) r.image (image_bytes r.image) (formed-drive r.image run.on.drive run.on.widths);
      recovered = file-recovered;
      rung = rung.point;
      sent = rung.sent;
      doorbell =
          new-bell 0 some-queue ∙ (rung.bell_is ∙ ap (λ (n : ℕ). n + rung.point.entries) (old-bell 0 some-queue));
      others = λ q some own.
          new-bell q own ∙ (rings.still emu_ghosts emu_state emu_faults h drives.ports standing ran.opening (ran.run.last ∷ []) ended ran.opened ran.run.closed q some own follows.own ∙ old-bell q own);
      clean = cleaned;
    }
