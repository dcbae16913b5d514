-- After a checkpoint at the end of a desk with one session, each image of its ports is clean.
use Rattle.std.proofs.Common.{◌≡◌, ◌⊎◌, ◌∙◌, ℕ, cond, ◌+◌, ◌<◌, ◌≤◌, true, false, List, [], ◌∷◌, length, map, inl, inr, refl, sym, ap, subst, arith}
use Rattle.std.specs.Prelude.{nat_eq}
use Rattle.std.proofs.lemmas.Bool.{cases_lt}
use Rattle.mq_nvme.specs.Says.{journal_reading}
use Rattle.mq_blocks.specs.Descriptor.{Descriptor}
use Rattle.mq_blocks.specs.Drive.{PortImage, PortState}
use Rattle.mq_blocks.specs.Journal.{image_at, shown}
use Rattle.mq_blocks.specs.declared.geometry.Geometry.{Geometry}
use Rattle.mq_journal.specs.Raised.{Raises}
use Rattle.mq_core.proofs.KnownJournalGrowth.{front_low}
use Rattle.mq_drive.specs.Steps.{PortFault}
use Rattle.mq_drive.specs.declared.port.Port.{Ghosts}
use Rattle.mq_drive.specs.declared.port.Ports.{Ports}
use Rattle.mq_journal.specs.Numbers.{Seat, Shared, Start}
use Rattle.mq_journal.specs.Values.{side_values}
use Rattle.mq_kv.specs.Opening.{IsOpenedOver}
use Rattle.mq_kv_entries.specs.Entries.{tx_of}
use Rattle.mq_kv_entries.specs.Group.{store_group}
use Rattle.mq_kv_entries.specs.declared.entry.KvEntry.{KvEntry}
use Rattle.mq_kv_run.specs.Promise.{IsCleanAt}
use Rattle.mq_kv_run.proofs.ImageEnds as at_end
use Rattle.mq_ledger.specs.History.{of_queue, upto}
use Rattle.mq_ledger.proofs.History.{upto-at}
use Rattle.mq_ledger.specs.Items.{end_of}
use Rattle.mq_ledger.specs.KnownJournal.{front}
use Rattle.mq_ledger.specs.State.{from_at, port_at}
use Rattle.mq_recover.specs.Drives.{AreImages, states}
use Rattle.mq_recover.specs.Recovery.{IsReadPrefix}
use Rattle.mq_recover.specs.declared.standing.Standing.{Standing}
use Rattle.mq_desk_laws.specs.Rule.{IsOk, IsRoot, core_of, history, history_of, numbered}
use Rattle.mq_desk_laws.specs.Values.{Values}
use Rattle.mq_queue_side.specs.declared.root.Root.{Root}
use Rattle.mq_queue_side.specs.declared.side.QueueSide.{QueueSide}
use Rattle.mq_tie.specs.Closed.{HasRun}
use Rattle.mq_tie.specs.Runs.{ports_of}
use Rattle.mq_tie.specs.declared.ended.Ended.{Ended}
use Rattle.mq_turns.specs.Desk.{drawn_of}
use Rattle.mq_turns.specs.Lists.{Each, tick, times}
use Rattle.mq_turns.proofs.Lists.{miss}

none-above : {A : Type 0} (m n : ℕ) (xs : List (ℕ × A)) → n < m → Each (λ d. d.0 ≤ n) xs → times m xs ≡ 0
none-above m n [] lt each = refl
none-above m n (x ∷ xs) lt each =
    let here : tick x.0 m ≡ 0 = miss x.0 m (λ e. let l = each.0 in let s = e in absurd (omega arith)) in
    let rest = none-above m n xs lt each.1 in
    omega arith

module _ {Q R : Type 0} (values : Values Q R KvEntry) where
  -- no transaction of a queue has a number above the last one
  upto-all : (q base m : ℕ) (es : List KvEntry) → base + length es ≤ m → upto m (of_queue q (history values store_group base es)) ≡ of_queue q (history values store_group base es)
  upto-all q base m [] low = refl
  upto-all q base m (e ∷ es) low = elim (nat_eq (tx_of e).queue q) as (λ b. upto m (cond b (numbered (base + length es + 1) (tx_of e) ∷ of_queue q (history values store_group base es)) (of_queue q (history values store_group base es))) ≡ cond b (numbered (base + length es + 1) (tx_of e) ∷ of_queue q (history values store_group base es)) (of_queue q (history values store_group base es))) [
    | true ↦ upto-at m (numbered (base + length es + 1) (tx_of e)) (of_queue q (history values store_group base es)) (omega arith)
    | false ↦ upto-all q base m es (omega arith)
  ]

-- head and doorbell of the port are at the same count, as flushed and as stored
record IsResting (p : PortState) : Type 0 where
  head : p.head ≡ p.doorbell
  stored : p.stored_head ≡ p.doorbell

no-more : (ds : List Descriptor) → length ds ≡ 0 → ds ≡ []
no-more [] e = refl
no-more (d ∷ ds) e = absurd (omega arith)

module _ {P : Type 0} (G : Ghosts P) (state : P → PortState) (faults : P → List PortFault) (g : Geometry) (ports : Ports P) (s : Standing) (o : Start P KvEntry G) (v : Seat P KvEntry G) (r : Ended P KvEntry G)
    (opened : IsOpenedOver state faults g ports s o) (run : HasRun state faults store_group o (v ∷ []) r)
    (between : Seat P KvEntry G) (n : ℕ) (raises : Raises state faults store_group n between v) (began : o.base ≤ between.seen) where
  abbrev values : Values (QueueSide P KvEntry G) (Root P G) KvEntry
  values = side_values state faults

  abbrev K : Shared P KvEntry G
  K = run.end.known

  -- ---- the number is not below the last one, nor above it

  drawn-low : Each (λ d. d.0 ≤ n) (drawn_of (v ∷ []))
  drawn-low = subst (Each (λ d. d.0 ≤ n)) (sym raises.drawn) raises.seen.1

  not-below : r.next ≤ n
  not-below = elim (cases_lt n r.next) [
    | inl lt ↦
        let first = began in
        let seen = raises.seen.0 in
        let one = run.end.once r.next (omega arith) (omega arith) in
        let none = none-above r.next n (drawn_of (v ∷ [])) lt drawn-low in
        absurd (omega arith)
    | inr ge ↦ ge
  ]

  word-high : n ≤ K.word
  word-high =
      let low = run.end.based.0 in
      let told = raises.word in
      omega arith

  ok : IsOk values store_group K
  ok = run.end.ok

  front-high : front (core_of values store_group K) ≤ r.next
  front-high =
      let low = front_low (core_of values store_group K) in
      let many = at_end.many-txs values K.opening.base K.log in
      let last = run.end.next_is in
      omega arith

  root-is : IsRoot values store_group K r.root
  root-is = run.end.root_stands

  pub last : n ≡ K.opening.base + length K.log
  last =
      let low = not-below in
      let high = word-high in
      let reached = ok.base.reached in
      let top = front-high in
      let next = run.end.next_is in
      omega arith

  word-is : K.word ≡ K.opening.base + length K.log
  word-is =
      let high = word-high in
      let reached = ok.base.reached in
      let top = front-high in
      let next = run.end.next_is in
      let at = last in
      omega arith

  flushed-is : (state r.root.port).base ≡ n
  flushed-is =
      let high = word-high in
      let top = front-high in
      let next = run.end.next_is in
      let at = last in
      let bases = root-is.port.port.bases.0 in
      let order = root-is.port.port.bases.1 in
      let stored = root-is.port.stored.reached in
      omega arith

  stored-is : (state r.root.port).stored_base ≡ n
  stored-is =
      let flushed = flushed-is in
      let top = front-high in
      let next = run.end.next_is in
      let at = last in
      let order = root-is.port.port.bases.1 in
      let stored = root-is.port.stored.reached in
      omega arith

  rests : (q : ℕ) → q < g.queues → IsResting (port_at (map state (ports_of r)) q)
  rests q lt =
      let shape = ap (λ (h : Geometry). h.queues) (at_end.shape-is G state faults g ports s o (v ∷ []) r opened run) in
      let side = (at_end.ends G state faults g ports s o (v ∷ []) r opened run).parts.sides q (omega arith) in
      let based = side.based in
      let order = side.order in
      let word = word-is in
      let all = upto-all values q K.opening.base K.word K.log (omega arith) in
      let from : ℕ = from_at (at_end.parts G state faults g ports s o (v ∷ []) r opened run).starts q in
      let low : end_of from (of_queue q (history_of values store_group K)) ≤ (port_at (map state (ports_of r)) q).head = subst (λ ts. end_of from ts ≤ (port_at (map state (ports_of r)) q).head) all based in
      let flushed = order.flushed in
      let stored = order.stored in
      let staged = order.staged in
      let rung = order.rung in
      let drawn = order.drawn in
      record { head = omega arith; stored = omega arith }

  -- the base of an image is the flushed or the stored one
  at-base : (p : PortState) (b : ℕ) → p.base ≡ n → p.stored_base ≡ n → (b ≡ p.base) ⊎ (b ≡ p.stored_base) → b ≡ n
  at-base p b one other (inl w) = w ∙ one
  at-base p b one other (inr w) = w ∙ other

  at-doorbell : (p : PortState) (h d : ℕ) → IsResting p → d ≡ p.doorbell → (h ≡ p.head) ⊎ (h ≡ p.stored_head) → h ≡ d
  at-doorbell p h d rest same (inl w) = w ∙ (rest.head ∙ sym same)
  at-doorbell p h d rest same (inr w) = w ∙ (rest.stored ∙ sym same)

  pub is-clean : (queues : List PortImage) (root : PortImage) → AreImages g (states state (ports_of r) r.root.port) queues root → IsCleanAt g (shown journal_reading g queues root) n
  is-clean queues root images =
      let f = at_end.found G state faults g ports s o (v ∷ []) r opened run queues root images in
      let base : root.base ≡ n = at-base (state r.root.port) root.base flushed-is stored-is images.root_is.base in
      let end = last in
      let most = f.most in
      let none : f.ds ≡ [] = no-more f.ds (omega arith) in
      let high = f.top_low in
      let low = f.read.top_is.greatest root.base (record { where_from = inl refl }) in
      let top : f.top ≡ n = omega arith in
      record {
        base_is = base;
        read = subst (λ (z : List Descriptor × ℕ). IsReadPrefix g (shown journal_reading g queues root) z.0 z.1) (λ i. (none i, top i)) f.read;
        heads = λ q lt. at-doorbell (port_at (map state (ports_of r)) q) (image_at queues q).head (image_at queues q).doorbell (rests q lt) (images.each q lt).doorbell (images.each q lt).head;
      }
