-- Whatever a power cut leaves of the ports after a run is a cut of its history.
use Rattle.std.proofs.Common.{◌≡◌, ◌∙◌, ℕ, suc, ◌+◌, ◌-◌, ◌<◌, ◌≤◌, Bool, List, [], ◌∷◌, ◌++◌, length, map, take, drop, refl, sym, ap, subst, arith}
use Rattle.std.specs.Prelude.{Some, reverse}
use Rattle.std.specs.List.{All}
use Rattle.std.proofs.lemmas.List.{length-drop, length-map, length-reverse, take-append-drop}
use Rattle.mq_nvme.specs.Says.{journal_reading}
use Rattle.mq_blocks.specs.Descriptor.{Descriptor}
use Rattle.mq_blocks.specs.Drive.{IsImage, PortImage, PortState}
use Rattle.mq_blocks.specs.Geometry.{homes_of}
use Rattle.mq_blocks.specs.Journal.{image_at, shown, stands}
use Rattle.mq_blocks.specs.Machine.{Map}
use Rattle.mq_blocks.specs.declared.geometry.Geometry.{Geometry}
use Rattle.mq_core.proofs.StateCuts.{cut_of}
use Rattle.mq_drive.specs.Steps.{PortFault}
use Rattle.mq_drive.specs.declared.port.Port.{Ghosts}
use Rattle.mq_drive.specs.declared.port.Ports.{Ports}
use Rattle.mq_state_laws.proofs.PartsAssembly.{front_reached}
use Rattle.mq_state_laws.proofs.JournalTops.{shows_low}
use Rattle.mq_state_laws.specs.Parts.{Parts, least_marks, state_with}
use Rattle.mq_calls.specs.Group.{file_group}
use Rattle.mq_calls.specs.declared.entry.FileEntry.{FileEntry}
use Rattle.mq_journal.specs.Numbers.{Shared, Start}
use Rattle.mq_journal.specs.Values.{side_values}
use Rattle.mq_ledger.specs.History as ledger
use Rattle.mq_ledger.specs.KnownJournal.{front}
use Rattle.mq_ledger.specs.State as machine
use Rattle.mq_ledger.specs.State.{State, port_at}
use Rattle.mq_run_laws.proofs.Histories.{lines-at, lines-newest}
use Rattle.mq_run_laws.proofs.HistoriesLogs.{log-map}
use Rattle.mq_run_laws.specs.Cuts.{IsCut}
use Rattle.mq_run_laws.specs.Histories.{AreOfBytes, map_after}
use Rattle.mq_run_laws.proofs.CutsNextRun.{home-of}
use Rattle.mq_recover.specs.Drives.{AreImages, drive_of}
use Rattle.mq_recover.specs.Recovery.{IsReadPrefix}
use Rattle.mq_recover.specs.declared.standing.Standing.{Standing}
use Rattle.mq_desk_laws.specs.Rule.{core_of, geometry_of, history, history_of, start_of}
use Rattle.mq_desk_laws.specs.Values.{Values}
use Rattle.mq_script.specs.Scripts.{Script}
use Rattle.mq_queue_side.specs.declared.root.Root.{Root}
use Rattle.mq_queue_side.specs.declared.side.QueueSide.{QueueSide}
use Rattle.mq_tie.proofs.Legal.{upto-hist}
use Rattle.mq_tie.specs.Runs.{EndsLawfully, parts_of, ports_of}
use Rattle.mq_tie.specs.declared.ended.Ended.{Ended}
use Rattle.mq_tree.specs.Laid.{IsLaid, map_of}
use Rattle.mq_tree.specs.Volume.{Volume}
use Rattle.mq_run.specs.Playing.{IsShort}
use Rattle.mq_run.specs.Runs.{HasRunScripts}
use Rattle.mq_run.specs.declared.end.RunEnd.{RunEnd}
use Rattle.mq_run_laws.proofs.AnswersDone.{acknowledged-low}
use Rattle.mq_run_laws.proofs.LinesNumbered.{older}
use Rattle.mq_state_laws.proofs.ReadableTops.{top-of}
use Rattle.mq_run_laws.proofs.RunsWhole.{are-lines, base-is, shape-is, start-is}

module _ {Q R : Type 0} (values : Values Q R FileEntry) where
  pub many-txs : (base : ℕ) (es : List FileEntry) → length (history values file_group base es) ≡ length es
  many-txs base [] = refl
  many-txs base (e ∷ es) = ap suc (many-txs base es)

  -- the map at a number, by the transactions and by the entries
  map-upto : (start : Map) (base r : ℕ) (log : List FileEntry) → base ≤ r → r ≤ base + length log → ledger.map_after start (ledger.upto r (history values file_group base log)) ≡ map_after start (take (r - base) (reverse log))
  map-upto start base r log low high =
      let k = base + length log - r in
      let newer = take k log in
      let old = drop k log in
      let whole : log ≡ newer ++ old = sym (take-append-drop k log) in
      let many = length-drop k log in
      let long : length old ≡ r - base = omega arith in
      let number : r ≡ base + length old = omega arith in
      ap (λ (es : List FileEntry). ledger.map_after start (ledger.upto r (history values file_group base es))) whole
      ∙ (ap (ledger.map_after start) (upto-hist values file_group base r newer old number)
      ∙ (log-map values start base old
      ∙ ap (map_after start) (sym (older log newer old whole) ∙ ap (λ (n : ℕ). take n (reverse log)) long)))

module _ {P : Type 0} (G : Ghosts P) (state : P → PortState) (faults : P → List PortFault) (g : Geometry) (ports : Ports P) (s : Standing) (scripts : List Script) (finish : Bool) (e : RunEnd P)
    (run : HasRunScripts G state faults g ports s scripts finish e) where
  abbrev K : Shared P FileEntry G
  K = run.ends.run.end.known

  abbrev end : Ended P FileEntry G
  end = run.ends.end

  abbrev values : Values (QueueSide P FileEntry G) (Root P G) FileEntry
  values = side_values state faults

  abbrev own : Geometry
  own = geometry_of values file_group K

  abbrev pub parts : Parts
  parts = parts_of state faults file_group K end []

  abbrev at-end : State
  at-end = state_with (least_marks parts) parts

  pub all-sides : length K.opening.sides ≡ own.queues
  all-sides =
      ap (λ (x : Start P FileEntry G). length x.sides) run.ends.run.end.opening
      ∙ (sym (length-map run.opening.sides (λ (q : QueueSide P FileEntry G). state q.pmr.port))
      ∙ (run.opened.fresh.start.ports
      ∙ (ap (λ (x : Geometry). x.queues) run.opened.shape
      ∙ sym (ap (λ (x : Geometry). x.queues) (shape-is G state faults g ports s scripts finish e run)))))

  pub ends : EndsLawfully state faults file_group K end []
  ends = run.ends.run.run.ends all-sides [] (λ n among. absurd (cc))

  -- what is found on an image
  pub record Found (h : Geometry) (queues : List PortImage) (root : PortImage) : Type 0 where
    pub ds : List Descriptor
    pub top : ℕ
    pub read : IsReadPrefix h (shown journal_reading h queues root) ds top
    pub top_low : top ≤ K.opening.base + length K.log
    pub least : front (core_of values file_group K) ≤ root.base + length ds
    pub most : root.base + length ds ≤ K.opening.base + length K.log
    pub stand : (x : ℕ) (content : List ℕ) → x < homes_of h → ledger.map_after (start_of values file_group K.opening) (ledger.upto (root.base + length ds) (history_of values file_group K)) x ≡ Some content → stands h (shown journal_reading h queues root) ds x ≡ content

  found-own : (queues : List PortImage) (root : PortImage) → machine.AreImages at-end queues root → Found own queues root
  found-own queues root images =
      let recovers = ends.lawful.safe.images queues root images in
      let cut = cut_of parts.entries at-end queues root ends.lawful.facts images in
      let top = top-of (shown journal_reading own queues root) recovers.chains own recovers.whole in
      let low = shows_low parts.entries at-end ends.lawful.facts (shown journal_reading own queues root) cut recovers.chains top.0 recovers.whole top.1.shown in
      let many = many-txs values K.opening.base K.log in
      let reached = front_reached parts ends.parts in
      let least = recovers.least in
      let most = recovers.most in
      record {
        ds = recovers.ds;
        top = top.0;
        read = record { form_is = refl; chains = recovers.chains; whole = recovers.whole; prefix = recovers.prefix; top_is = top.1 };
        top_low = omega arith;
        least = omega arith;
        most = omega arith;
        stand = recovers.stand;
      }

  pub found : (queues : List PortImage) (root : PortImage) → AreImages g (drive_of state e.ports) queues root → Found g queues root
  found queues root =
      let given : map state e.ports.queues.items ≡ map state (ports_of end) = ap (map state) run.ends.leaves.queues in
      let at_root : state e.ports.root ≡ state end.root.port = ap state run.ends.leaves.root in
      subst (λ (h : Geometry). AreImages h (drive_of state e.ports) queues root → Found h queues root) (shape-is G state faults g ports s scripts finish e run)
      (λ images. found-own queues root (record {
        each = λ q lt. subst (λ (ps : List PortState). IsImage (port_at ps q) (image_at queues q)) given (images.each q lt);
        root_is = subst (λ (p : PortState). IsImage p root) at_root images.root_is;
      }))

  pub is-cut : (v : Volume) (queues : List PortImage) (root : PortImage) → All (λ script. IsShort script.groups) scripts → AreOfBytes scripts → IsLaid g (map_of g s.blocks.items) v → AreImages g (drive_of state e.ports) queues root
      → (r : ℕ) × IsCut g scripts v s.base e.entries.items e.answers.items (shown journal_reading g queues root) r
  is-cut v queues root short low laid images =
      let f = found queues root images in
      let r = root.base + length f.ds in
      let start : Map = start_of values file_group K.opening in
      let there_is : IsLaid g start v = subst (λ (m : Map). IsLaid g m v) (sym (start-is G state faults g ports s scripts finish e run)) laid in
      let are = are-lines G state faults g ports s scripts finish e run short in
      let base = base-is G state faults g ports s scripts finish e run in
      let last = lines-newest g scripts start K.opening.base s.base (reverse K.log) e.entries.items base are in
      let long = length-reverse K.log in
      let there_at = lines-at g scripts start v K.opening.base r (reverse K.log) e.entries.items low there_is are in
      let least = f.least in
      let most = f.most in
      let top = f.top_low in
      let same = map-upto values start K.opening.base r K.log (omega arith) most in (
        r,
        record {
          ds = f.ds;
          top = f.top;
          read = f.read;
          reaches = refl;
          least = omega arith;
          most = omega arith;
          stand = record {
            map = map_after start (take (r - K.opening.base) (reverse K.log));
            laid = there_at;
            each = λ b page is. f.stand b page (home-of g _ _ b page there_at is) (ap (λ (m : Map). m b) same ∙ is);
          };
          acknowledged = λ n is. let known = acknowledged-low G state faults g ports s scripts finish e run short n is in omega arith;
          top_most = omega arith;
        },
      )
