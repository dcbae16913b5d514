-- After a checkpoint at the end of a run, each image of the ports is clean.
use Rattle.std.proofs.Common.{◌≡◌, ◌⊎◌, ◌∙◌, ℕ, cond, ◌+◌, ◌<◌, ◌≤◌, Bool, true, false, List, [], ◌∷◌, length, map, inl, inr, refl, sym, ap, subst, arith}
use Rattle.std.specs.Prelude.{Ok, Some, nat_eq, reverse}
use Rattle.std.specs.List.{All}
use Rattle.std.proofs.lemmas.List.{length-reverse}
use Rattle.mq_nvme.specs.Says.{journal_reading}
use Rattle.mq_blocks.specs.Descriptor.{Descriptor}
use Rattle.mq_blocks.specs.Drive.{PortImage, PortState}
use Rattle.mq_blocks.specs.Journal.{image_at, shown}
use Rattle.mq_blocks.specs.declared.geometry.Geometry.{Geometry}
use Rattle.mq_core.proofs.KnownJournalGrowth.{front_low}
use Rattle.mq_drive.specs.Steps.{PortFault}
use Rattle.mq_drive.specs.declared.port.Port.{Ghosts}
use Rattle.mq_drive.specs.declared.port.Ports.{Ports}
use Rattle.mq_calls.specs.Entries.{tx_of}
use Rattle.mq_calls.specs.Group.{file_group}
use Rattle.mq_calls.specs.declared.entry.FileEntry.{FileEntry}
use Rattle.mq_journal.specs.Numbers.{Seat, Shared}
use Rattle.mq_journal.specs.Values.{side_values}
use Rattle.mq_ledger.specs.History.{of_queue, upto}
use Rattle.mq_ledger.proofs.History.{upto-at}
use Rattle.mq_ledger.specs.Items.{end_of}
use Rattle.mq_ledger.specs.State.{port_at}
use Rattle.mq_run_laws.proofs.Histories.{lines-newest}
use Rattle.mq_run_laws.specs.Cuts.{IsClean}
use Rattle.mq_run_laws.specs.Legal.{newest}
use Rattle.mq_recover.specs.Drives.{AreImages, drive_of}
use Rattle.mq_recover.specs.Recovery.{IsReadPrefix}
use Rattle.mq_recover.specs.declared.standing.Standing.{Standing}
use Rattle.mq_desk_laws.specs.Rule.{core_of, history, history_of, numbered, start_of}
use Rattle.mq_desk_laws.specs.Values.{Values}
use Rattle.mq_script.specs.Scripts.{Script}
use Rattle.mq_queue_side.specs.declared.root.Root.{Root}
use Rattle.mq_queue_side.specs.declared.side.QueueSide.{QueueSide}
use Rattle.mq_tie.specs.Runs.{ports_of}
use Rattle.mq_turns.specs.Lists.{Each}
use Rattle.mq_run.proofs.LawsFinished.{finished-clean}
use Rattle.mq_run.proofs.RunsHelpers.{all-left}
use Rattle.mq_run.specs.Ending.{Finishes}
use Rattle.mq_run.specs.Playing.{IsShort}
use Rattle.mq_run.specs.Runs.{HasRunScripts}
use Rattle.mq_run.specs.declared.end.RunEnd.{RunEnd}
use Rattle.mq_run_laws.proofs.Cuts.{found, many-txs, parts, ends}
use Rattle.mq_run_laws.proofs.RunsWhole.{are-lines, base-is, shape-is}

module _ {Q R : Type 0} (values : Values Q R FileEntry) where
  -- no transaction of a queue has a number above the last one
  upto-all : (q base m : ℕ) (es : List FileEntry) → base + length es ≤ m → upto m (of_queue q (history values file_group base es)) ≡ of_queue q (history values file_group base es)
  upto-all q base m [] low = refl
  upto-all q base m (e ∷ es) low = elim (nat_eq (tx_of e).queue q) as (λ b. upto m (cond b (numbered (base + length es + 1) (tx_of e) ∷ of_queue q (history values file_group base es)) (of_queue q (history values file_group base es))) ≡ cond b (numbered (base + length es + 1) (tx_of e) ∷ of_queue q (history values file_group base es)) (of_queue q (history values file_group base es))) [
    | true ↦ upto-at m (numbered (base + length es + 1) (tx_of e)) (of_queue q (history values file_group base es)) (omega arith)
    | false ↦ upto-all q base m es (omega arith)
  ]

-- head and doorbell of the port are at the same count, as flushed and as stored
record IsResting (p : PortState) : Type 0 where
  head : p.head ≡ p.doorbell
  stored : p.stored_head ≡ p.doorbell

no-more : (ds : List Descriptor) → length ds ≡ 0 → ds ≡ []
no-more [] e = refl
no-more (d ∷ ds) e = absurd (omega arith)

module _ {P : Type 0} (G : Ghosts P) (state : P → PortState) (faults : P → List PortFault) (g : Geometry) (ports : Ports P) (s : Standing) (scripts : List Script) (finish : Bool) (e : RunEnd P) (n : ℕ)
    (run : HasRunScripts G state faults g ports s scripts finish e) (is : e.finished ≡ Some (Ok n)) where
  abbrev K : Shared P FileEntry G
  K = run.ends.run.end.known

  abbrev values : Values (QueueSide P FileEntry G) (Root P G) FileEntry
  values = side_values state faults

  clean : Rattle.mq_run.specs.Laws.IsClean n e.next (state e.ports.root)
  clean = finished-clean G state faults g ports s scripts finish e n run is

  last : n ≡ K.opening.base + length K.log
  last = let a = clean.last in let b = run.ends.leaves.next in let c = run.ends.run.end.next_is in omega arith

  word-high : n ≤ K.word
  word-high =
      let fin = run.ends.finished in
      let answered : Finishes state faults (Some (Ok n)) fin.others fin.first fin.last = subst (λ a. Finishes state faults a fin.others fin.first fin.last) is fin.finishes in
      let first = subst (Each (λ (v : Seat P FileEntry G). v.reading.base ≤ K.word)) (all-left G state faults g ports s scripts finish e run) run.ends.run.end.based in
      let low : fin.last.reading.base ≤ K.word = first.0 in
      let told = answered.2.word in
      omega arith

  word-is : K.word ≡ K.opening.base + length K.log
  word-is =
      let reached = run.ends.run.end.ok.base.reached in
      let low = front_low (core_of values file_group K) in
      let many = many-txs values K.opening.base K.log in
      let high = word-high in
      let at = last in
      omega arith

  rests : (q : ℕ) → q < g.queues → IsResting (port_at (map state e.ports.queues.items) q)
  rests q lt =
      let shape = ap (λ (h : Geometry). h.queues) (shape-is G state faults g ports s scripts finish e run) in
      let side = (ends G state faults g ports s scripts finish e run).parts.sides q (omega arith) in
      let based = side.based in
      let order = side.order in
      let word = word-is in
      let all = upto-all values q K.opening.base K.word K.log (omega arith) in
      let from : ℕ = Rattle.mq_ledger.specs.State.from_at (parts G state faults g ports s scripts finish e run).starts q in
      let low : end_of from (of_queue q (history_of values file_group K)) ≤ (port_at (map state (ports_of run.ends.end)) q).head = subst (λ ts. end_of from ts ≤ (port_at (map state (ports_of run.ends.end)) q).head) all based in
      let flushed = order.flushed in
      let stored = order.stored in
      let rung = order.rung in
      let drawn = order.drawn in
      let one : IsResting (port_at (map state (ports_of run.ends.end)) q) = record { head = omega arith; stored = omega arith } in
      subst (λ (ps : List PortState). IsResting (port_at ps q)) (sym (ap (map state) run.ends.leaves.queues)) one

  -- the base of an image is the flushed or the stored one
  at-base : (p : PortState) (b : ℕ) → p.base ≡ n → p.stored_base ≡ n → (b ≡ p.base) ⊎ (b ≡ p.stored_base) → b ≡ n
  at-base p b one other (inl w) = w ∙ one
  at-base p b one other (inr w) = w ∙ other

  at-doorbell : (p : PortState) (h d : ℕ) → IsResting p → d ≡ p.doorbell → (h ≡ p.head) ⊎ (h ≡ p.stored_head) → h ≡ d
  at-doorbell p h d rest same (inl w) = w ∙ (rest.head ∙ sym same)
  at-doorbell p h d rest same (inr w) = w ∙ (rest.stored ∙ sym same)

  pub is-clean : (queues : List PortImage) (root : PortImage) → All (λ script. IsShort script.groups) scripts → AreImages g (drive_of state e.ports) queues root
      → (n ≡ newest s.base e.entries.items) × IsClean g (shown journal_reading g queues root) n
  is-clean queues root short images =
      let f = found G state faults g ports s scripts finish e run queues root images in
      let base : root.base ≡ n = at-base (state e.ports.root) root.base clean.flushed clean.stored images.root_is.base in
      let end = last in
      let most = f.most in
      let none : f.ds ≡ [] = no-more f.ds (omega arith) in
      let high = f.top_low in
      let low = f.read.top_is.greatest root.base (record { where_from = inl refl }) in
      let top : f.top ≡ n = omega arith in
      let opened = base-is G state faults g ports s scripts finish e run in
      let lines = lines-newest g scripts (start_of values file_group K.opening) K.opening.base s.base (reverse K.log) e.entries.items opened (are-lines G state faults g ports s scripts finish e run short) in
      let long = length-reverse K.log in (
        omega arith,
        record {
          base_is = base;
          read = subst (λ (z : List Descriptor × ℕ). IsReadPrefix g (shown journal_reading g queues root) z.0 z.1) (λ i. (none i, top i)) f.read;
          heads = λ q lt. at-doorbell (port_at (map state e.ports.queues.items) q) (image_at queues q).head (image_at queues q).doorbell (rests q lt) (images.each q lt).doorbell (images.each q lt).head;
        },
      )
