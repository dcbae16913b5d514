-- What one line makes of the queues and of their journal.
use Rattle.std.proofs.Common.{◌≡◌, ◌≢◌, ◌<◌, ◌≤◌, ℕ, suc, ◌+◌, Bool, true, false, ◌&&◌, cond, eqb, leb, List, [], ◌∷◌, length, None, Ok, Err, refl, sym, ◌∙◌, ap, subst, inl, inr, arith}
use Rattle.std.proofs.lemmas.Bool.{eq-eqb, ne_eqb, cases_eq, le-leb, lt-leb}
use Rattle.std.proofs.lemmas.List.{length-reverse}
use Rattle.mq_block_text.specs.Text.{AreGoodItems, IsGoodLine, sets_in}
use Rattle.mq_block_text.specs.declared.item.BlockItem.{BlockItem}
use Rattle.mq_block_trace.specs.Lines.{empty_map, named, set_in, writes_from}
use Rattle.mq_block_trace.proofs.LinesFills.{length-writes, length-writes_sets, named_is}
use Rattle.mq_blocks.specs.Drive.{FuseName, PortState}
use Rattle.mq_blocks.specs.Machine.{Writes}
use Rattle.mq_ledger.specs.History.{IsAt, map_after, of_queue, writes}
use Rattle.mq_ledger.specs.Items.{descriptor_blocks, end_of}
use Rattle.mq_ledger.specs.State.{State, from_at, is_done, port_at}
use Rattle.mq_ledger.specs.declared.tx.Tx.{Tx}
use Rattle.mq_ledger.proofs.HistoryQueues.{at_end, at_own}
use Rattle.mq_loose.specs.Rows.{loose_rows}
use Rattle.mq_loose_queues.specs.Commits.{IsDrawn, IsRungOn}
use Rattle.mq_loose_queues.specs.Commits as commits
use Rattle.mq_loose_queues.specs.Drains.{IsDrainOf}
use Rattle.mq_loose_queues.specs.Journal.{IsJournal, known_over, loose_tx}
use Rattle.mq_loose_queues.specs.Queues.{QueuesState, StoredSide, at_queue, next_number, ports_of}
use Rattle.mq_loose_queues.proofs.Ports.{port_is}
use Rattle.mq_loose_text.specs.Meaning.{after_line, done_by_line, done_on, drawn_by, freed_from, line_at, newest_on, tx_of, waiting_on}
use Rattle.mq_loose_text.specs.Text.{queue_count}
use Rattle.mq_loose_text.specs.declared.line.LooseLine.{LooseLine}
use Rattle.mq_loose_text.specs.declared.line.LooseLine.TheVariants.{Commit, Done}
use Rattle.mq_queue_side.specs.Side.{IsKept, IsQueueSide, SideState}
use Rattle.mq_queue_side.specs.Drained.{DrainMakes}
use Rattle.mq_queue_side.specs.Sent.{IsCutAt}
use Rattle.mq_queue_side.specs.declared.answers.Cause.TheVariants as cause
use Rattle.mq_loose_run.specs.Lines.{HasDrawn, HasHappened, HasRun, HasRunOn, HasStopped, IsCutOn, events_on, queue_of}
use Rattle.mq_loose_run.specs.Steps.{IsNext}
use Rattle.mq_loose_run.proofs.Counts.{done_low, drawn_numbered, events_few, newest_high, queue_is, rung_few, waits_rung}
use Rattle.mq_loose_run.proofs.OneSide.{drain_cut, drained, idle, sent, sent_cut, skipped}

-- ---- what is known of the queues so far

module _ (fuse : FuseName) (start : State) (lines : List LooseLine) (n : ℕ) (v : QueuesState) (r : HasRun fuse start lines n v) where
  abbrev h : List Tx
  h = drawn_by lines n

  abbrev j : IsJournal start h v
  j = r.drawn.journal

  pub own_queue : (q : ℕ) → q < queue_count → q < start.geometry.queues
  own_queue q low = (let g = r.drawn.start_is.geometry_is.queues in omega (arith, low, g, queue_is))

  pub side_of : (q : ℕ) → q < queue_count → IsQueueSide (known_over start h) q (of_queue q h) (at_queue v q).side
  side_of q low = j.sides q (own_queue q low)

  -- nothing is staged
  pub none_pending : (q : ℕ) → q < queue_count → (at_queue v q).side.port.pending ≡ []
  none_pending q low = nothing (at_queue v q).side (side_of q low) (r.sides q low).kept
    where
      nothing : (s : SideState) → IsQueueSide (known_over start h) q (of_queue q h) s → s.kept ≡ None → s.port.pending ≡ []
      nothing s side none = (subst (λ k. IsKept ((known_over start h).from q) (of_queue q h) s.port.failed s.port.pending s.port.doorbell k) none side.kept).1

  pub none_failed : (q : ℕ) → q < queue_count → (at_queue v q).side.port.failed ≡ []
  none_failed q low = nothing (at_queue v q).side (side_of q low) (r.sides q low).kept
    where
      nothing : (s : SideState) → IsQueueSide (known_over start h) q (of_queue q h) s → s.kept ≡ None → s.port.failed ≡ []
      nothing s side none = (subst (λ k. IsKept ((known_over start h).from q) (of_queue q h) s.port.failed s.port.pending s.port.doorbell k) none side.kept).0

  -- the doorbell is behind all that was committed
  pub bell_end : (q : ℕ) → q < queue_count → (at_queue v q).side.port.doorbell ≡ end_of (from_at start.starts q) (of_queue q h)
  bell_end q low = j.rung q (own_queue q low) (r.sides q low).kept

  pub base_is : v.root.base ≡ 0
  base_is = ap (λ (p : PortState). p.base) j.root_is ∙ j.start.base ∙ r.drawn.start_is.base

  pub rows_long : length v.rows ≡ length h
  rows_long = ap length j.rows ∙ length-reverse _ ∙ long h
    where
      long : (ts : List Tx) → length (loose_rows start.base start.starts ts) ≡ length ts
      long [] = refl
      long (t ∷ ts) = ap suc (long ts)

  pub number_is : next_number v ≡ length h + 1
  number_is = omega (arith, base_is, rows_long)

  -- where the head of a queue is at its doorbell, all its transactions are done
  all_done : (q : ℕ) (t : Tx) (ts : List Tx) (head : ℕ) → q < queue_count → IsAt t ts h → t.queue ≡ q → head ≡ end_of (from_at start.starts q) (of_queue q h) → leb (end_of (from_at start.starts t.queue) (of_queue t.queue ts) + (writes t + descriptor_blocks t)) head ≡ true
  all_done q t ts head low at own is =
      let inside = at_end (from_at start.starts q) t (of_queue q ts) (of_queue q h) (at_own q t ts h at own) in
      rw own (le-leb _ _ (omega (arith, inside, is)))

-- ---- a commit

module _ (fuse : FuseName) (start : State) (lines : List LooseLine) (n q : ℕ) (is : List BlockItem) (v w : QueuesState) (next : IsNext lines n (Commit q is)) (r : HasRun fuse start lines n v) (low : q < queue_count) (good : IsGoodLine is) (ws : Writes) (frees : List ℕ) (ws_are : ws ≡ writes_from (set_in is) 0 named)
    (frees_are : frees ≡ freed_from (map_after empty_map (drawn_by lines n)) is 0 named) (d : IsDrawn v q ws frees w) where
  abbrev hs : List Tx
  hs = drawn_by lines n

  tx_is : loose_tx (next_number v) q ws frees ≡ tx_of hs q is
  tx_is = λ i. loose_tx (number_is fuse start lines n v r i) q (ws_are i) (frees_are i)

  drawn_is : loose_tx (next_number v) q ws frees ∷ hs ≡ drawn_by lines (suc n)
  drawn_is = ap (λ (t : Tx). t ∷ hs) tx_is ∙ sym (ap (λ (l : LooseLine). after_line l hs) next.is)

  journal_then : IsJournal start (drawn_by lines (suc n)) w
  journal_then = subst (λ (us : List Tx). IsJournal start us w) drawn_is (d.journal start hs r.drawn.journal)

  items_good : AreGoodItems is
  items_good = of is good
    where
      of : (is : List BlockItem) → IsGoodLine is → AreGoodItems is
      of [] g = absurd g
      of (i ∷ is) g = g

  sets : length ws ≡ sets_in is
  sets = ap length ws_are ∙ length-writes_sets is items_good

  root_then : HasHappened fuse 0 w.root
  root_then = subst (HasHappened fuse 0) (sym d.root) r.drawn.root

  done_same : (k : ℕ) → done_on None k lines (suc n) ≡ done_on None k lines n
  done_same k = ap (λ (l : LooseLine). done_by_line None k lines n l (done_on None k lines n)) next.is

  module _ (head : (at_queue w q).side.port.head ≡ (at_queue v q).side.port.head) where
    heads : (k : ℕ) → (port_at (ports_of w) k).head ≡ (port_at (ports_of v) k).head
    heads k = ap (λ (p : PortState). p.head) (port_is w k) ∙ elim (cases_eq k q) [
      | inl same ↦ ap (λ (m : ℕ). (at_queue w m).side.port.head) same ∙ head ∙ sym (ap (λ (m : ℕ). (at_queue v m).side.port.head) same)
      | inr other ↦ ap (λ (s : StoredSide). s.side.port.head) (d.others k other)
    ] ∙ sym (ap (λ (p : PortState). p.head) (port_is v k))

    -- the new transaction is not done, and of the others what was
    done_then : (t : Tx) (ts : List Tx) → IsAt t ts (tx_of hs q is ∷ hs) → is_done start.starts (ports_of w) t ts ≡ leb t.number (done_on None t.queue lines n)
    done_then t ts (inr at) = ap (leb _) (heads t.queue) ∙ r.drawn.done t ts at
    done_then t ts (inl (same, rest)) = not_done ∙ sym unknown
      where
        here : (port_at (ports_of w) q).head ≡ (at_queue v q).side.port.head
        here = heads q ∙ ap (λ (p : PortState). p.head) (port_is v q)

        late : (at_queue v q).side.port.head < end_of (from_at start.starts q) (of_queue q hs) + (writes (tx_of hs q is) + descriptor_blocks (tx_of hs q is))
        late = (let bell = bell_end fuse start lines n v r q low in let wait = (r.sides q low).waits in omega (arith, bell, wait))

        not_done : is_done start.starts (ports_of w) t ts ≡ false
        not_done = (λ i. is_done start.starts (ports_of w) (sym same i) (sym rest i)) ∙ ap (leb _) here ∙ lt-leb _ _ late

        unknown : leb t.number (done_on None t.queue lines n) ≡ false
        unknown = ap (λ (u : Tx). leb u.number (done_on None u.queue lines n)) (sym same) ∙ lt-leb (length hs + 1) (done_on None q lines n) (let l = done_low q n lines in omega (arith, l))

    drawn_at : (m : ℕ) → ((k : ℕ) → done_on None k lines m ≡ done_on None k lines n) → HasDrawn start lines (drawn_by lines (suc n)) m fuse w
    drawn_at m same = record {
      start_is = r.drawn.start_is;
      journal = journal_then;
      done = λ t ts at. done_then t ts (subst (IsAt t ts) (ap (λ (l : LooseLine). after_line l hs) next.is) at) ∙ ap (leb t.number) (sym (same t.queue));
      root = root_then;
    }

  few_events : events_on q lines n ≤ 6144
  few_events = (let inside = next.inside in events_few q n lines next.good low (omega (arith, inside)))

  few_sets : sets_in is ≤ 1024
  few_sets = (let l = length-writes (set_in is) 0 named in let e = named_is in let s = length-writes_sets is items_good in omega (arith, l, e, s))

  other_queue : (k : ℕ) → k ≢ q → queue_of (line_at lines n) ≢ k
  other_queue k other same = other (sym same ∙ ap queue_of next.is)

  pub committed : (tx : ℕ) → IsRungOn (at_queue v q) ws tx (at_queue w q) → HasRun fuse start lines (suc n) w
  committed tx rung =
      let side = sent fuse lines n q tx is ws (at_queue v q) (at_queue w q) next.is sets few_sets few_events (r.sides q low) (none_pending fuse start lines n v r q low) rung in
      let head : (at_queue w q).side.port.head ≡ (at_queue v q).side.port.head = ap (λ (p : PortState). p.head) rung.port ∙ (r.sides q low).stored in
      record {
        drawn = drawn_at head (suc n) done_same;
        sides = λ k inside. elim (cases_eq k q) [
          | inl same ↦ subst (λ (m : ℕ). HasRunOn fuse lines (suc n) m (at_queue w m).side) (sym same) side
          | inr other ↦ subst (λ (s : StoredSide). HasRunOn fuse lines (suc n) k s.side) (sym (d.others k other)) (skipped fuse lines n k (at_queue v k).side (other_queue k other) (r.sides k inside))
        ];
      }

  pub commit_cut : (tx : ℕ) → commits.IsCutOn (at_queue v q) ws tx (at_queue w q) → HasStopped fuse start lines n w
  commit_cut tx cut =
      let side = sent_cut fuse lines n q tx is ws (at_queue v q) (at_queue w q) next.is sets few_sets few_events (r.sides q low) (none_pending fuse start lines n v r q low) cut in
      let own : queue_of (line_at lines n) ≡ q = ap queue_of next.is in
      record {
        inside = next.inside;
        own = omega (arith, own, low);
        drawn = drawn_at (cut_head cut.port) n (λ k. refl);
        events = side.0;
        cut = subst (λ (m : ℕ). IsCutOn fuse lines n m side.0 (at_queue w m).side) (sym own) side.1;
        others = λ k inside other. subst (λ (s : StoredSide). HasRunOn fuse lines n k s.side) (sym (d.others k (λ same. other (same ∙ sym own)))) (r.sides k inside);
      }
    where
      cut_head : IsCutAt (at_queue v q).side.port tx cut.items (at_queue w q).side.port → (at_queue w q).side.port.head ≡ (at_queue v q).side.port.head
      cut_head (inl (m, less, e)) = ap (λ (p : PortState). p.head) e
      cut_head (inr (inl e)) = ap (λ (p : PortState). p.head) e
      cut_head (inr (inr e)) = ap (λ (p : PortState). p.head) e ∙ (r.sides q low).stored

-- ---- a drain

module _ (fuse : FuseName) (start : State) (lines : List LooseLine) (n q : ℕ) (v : QueuesState) (next : IsNext lines n (Done q)) (r : HasRun fuse start lines n v) (low : q < queue_count) where
  abbrev hd : List Tx
  hd = drawn_by lines n

  same_drawn : drawn_by lines (suc n) ≡ hd
  same_drawn = ap (λ (l : LooseLine). after_line l hd) next.is

  done_next : (k : ℕ) → done_on None k lines (suc n) ≡ cond (eqb q k) (newest_on k hd) (done_on None k lines n)
  done_next k = ap (λ (l : LooseLine). done_by_line None k lines n l (done_on None k lines n)) next.is ∙ ap (λ (b : Bool). cond b (newest_on k hd) (done_on None k lines n)) (and_same (eqb q k))
    where
      and_same : (b : Bool) → (b && true) ≡ b
      and_same true = refl
      and_same false = refl

  -- where the queue's head is at its doorbell then, and the other heads are as they were
  done_after : (w : QueuesState) → (at_queue w q).side.port.head ≡ (at_queue v q).side.port.doorbell → ((k : ℕ) → k ≢ q → at_queue w k ≡ at_queue v k) → (t : Tx) (ts : List Tx) → IsAt t ts hd → is_done start.starts (ports_of w) t ts ≡ leb t.number (done_on None t.queue lines (suc n))
  done_after w head others t ts at = elim (cases_eq t.queue q) [
    | inl own ↦
        let is : (port_at (ports_of w) t.queue).head ≡ end_of (from_at start.starts q) (of_queue q hd) = ap (λ (m : ℕ). (port_at (ports_of w) m).head) own ∙ ap (λ (p : PortState). p.head) (port_is w q) ∙ head ∙ bell_end fuse start lines n v r q low in
        all_done fuse start lines n v r q t ts (port_at (ports_of w) t.queue).head low at own is
        ∙ sym (ap (leb t.number) (done_next t.queue ∙ ap (λ (b : Bool). cond b (newest_on t.queue hd) (done_on None t.queue lines n)) (eq-eqb q t.queue (sym own))) ∙ le-leb t.number (newest_on t.queue hd) (newest_high t.queue t ts hd (drawn_numbered n lines) at refl))
    | inr other ↦
        let is : (port_at (ports_of w) t.queue).head ≡ (port_at (ports_of v) t.queue).head = ap (λ (p : PortState). p.head) (port_is w t.queue) ∙ ap (λ (s : StoredSide). s.side.port.head) (others t.queue other) ∙ sym (ap (λ (p : PortState). p.head) (port_is v t.queue)) in
        ap (leb _) is ∙ r.drawn.done t ts at
        ∙ sym (ap (leb t.number) (done_next t.queue ∙ ap (λ (b : Bool). cond b (newest_on t.queue hd) (done_on None t.queue lines n)) (ne_eqb q t.queue (λ e. other (sym e)))))
  ]

  other_side : (k : ℕ) → k ≢ q → queue_of (line_at lines n) ≢ k
  other_side k other same = other (sym same ∙ ap queue_of next.is)

  -- where nothing waits
  pub idled : waiting_on q lines n ≡ 0 → HasRun fuse start lines (suc n) v
  idled none = record {
    drawn = record {
      start_is = r.drawn.start_is;
      journal = subst (λ (us : List Tx). IsJournal start us v) (sym same_drawn) r.drawn.journal;
      done = λ t ts at. done_after v (let e = (r.sides q low).waits in omega (arith, e, none)) (λ k other. refl) t ts (subst (IsAt t ts) same_drawn at);
      root = r.drawn.root;
    };
    sides = λ k inside. elim (cases_eq k q) [
      | inl same ↦ subst (λ (m : ℕ). HasRunOn fuse lines (suc n) m (at_queue v m).side) (sym same) (idle fuse lines n q (at_queue v q).side next.is none (r.sides q low))
      | inr other ↦ skipped fuse lines n k (at_queue v k).side (other_side k other) (r.sides k inside)
    ];
  }

  module _ (w : QueuesState) (some : 0 < waiting_on q lines n) (clean : (at_queue w q).side.port.failed ≡ []) where
    few_waits : waiting_on q lines n ≤ 1024
    few_waits = (let inside = next.inside in let a = waits_rung q n lines in let b = rung_few q n lines next.good low (omega (arith, inside)) in omega (arith, a, b))

    few_before : events_on q lines n ≤ 6144
    few_before = (let inside = next.inside in events_few q n lines next.good low (omega (arith, inside)))

    pub whole : (m : ℕ) → IsDrainOf v q (Ok m) w → HasRun fuse start lines (suc n) w
    whole m d =
        let side = side_of fuse start lines n v r q low in
        let log = r.drawn.journal.log in
        let later = d.journal start hd r.drawn.journal in
        let order = (later.sides q (own_queue fuse start lines n v r q low)).side.order in
        let at_bell : (at_queue w q).side.port.head ≡ (at_queue w q).side.port.doorbell = d.whole q (known_over start hd) (of_queue q hd) log side in
        let own = drained fuse lines n q (at_queue v q).side (at_queue w q).side next.is some few_before few_waits (r.sides q low) clean m d.drains d.makes d.cause at_bell order.stored order.rung in
        record {
          drawn = record {
            start_is = r.drawn.start_is;
            journal = subst (λ (us : List Tx). IsJournal start us w) (sym same_drawn) later;
            done = λ t ts at. done_after w (at_bell ∙ d.drains.doorbell) d.others t ts (subst (IsAt t ts) same_drawn at);
            root = subst (HasHappened fuse 0) (sym d.root) r.drawn.root;
          };
          sides = λ k inside. elim (cases_eq k q) [
            | inl same ↦ subst (λ (m : ℕ). HasRunOn fuse lines (suc n) m (at_queue w m).side) (sym same) own
            | inr other ↦ subst (λ (s : StoredSide). HasRunOn fuse lines (suc n) k s.side) (sym (d.others k other)) (skipped fuse lines n k (at_queue v k).side (other_side k other) (r.sides k inside))
          ];
        }

    pub cut_short : IsDrainOf v q (Err cause.Off) w → HasStopped fuse start lines n w
    cut_short d =
        let side = side_of fuse start lines n v r q low in
        let cut = drain_cut fuse lines n q (at_queue v q).side (at_queue w q).side next.is some few_before few_waits (r.sides q low) clean d.drains d.makes side.last in
        let own : queue_of (line_at lines n) ≡ q = ap queue_of next.is in
        record {
          inside = next.inside;
          own = omega (arith, own, low);
          drawn = record {
            start_is = r.drawn.start_is;
            journal = subst (λ (us : List Tx). IsJournal start us w) (sym same_drawn) (d.journal start hd r.drawn.journal);
            done = λ t ts at. done_kept t ts (subst (IsAt t ts) same_drawn at);
            root = subst (HasHappened fuse 0) (sym d.root) r.drawn.root;
          };
          events = cut.0;
          cut = subst (λ (m : ℕ). IsCutOn fuse lines n m cut.0 (at_queue w m).side) (sym own) cut.1;
          others = λ k inside other. subst (λ (s : StoredSide). HasRunOn fuse lines n k s.side) (sym (d.others k (λ same. other (same ∙ sym own)))) (r.sides k inside);
        }
      where
        head_kept : DrainMakes (at_queue v q).side (Err cause.Off) (at_queue w q).side → (at_queue w q).side.port.head ≡ (at_queue v q).side.port.head
        head_kept (inl c) = c.head
        head_kept (inr c) = c.head

        heads_kept : (k : ℕ) → (port_at (ports_of w) k).head ≡ (port_at (ports_of v) k).head
        heads_kept k = ap (λ (p : PortState). p.head) (port_is w k) ∙ elim (cases_eq k q) [
          | inl same ↦ ap (λ (m : ℕ). (at_queue w m).side.port.head) same ∙ head_kept d.makes ∙ sym (ap (λ (m : ℕ). (at_queue v m).side.port.head) same)
          | inr other ↦ ap (λ (s : StoredSide). s.side.port.head) (d.others k other)
        ] ∙ sym (ap (λ (p : PortState). p.head) (port_is v k))

        done_kept : (t : Tx) (ts : List Tx) → IsAt t ts hd → is_done start.starts (ports_of w) t ts ≡ leb t.number (done_on None t.queue lines n)
        done_kept t ts at = ap (leb _) (heads_kept t.queue) ∙ r.drawn.done t ts at
