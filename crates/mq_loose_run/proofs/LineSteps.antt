-- One line more, with the marks and the waits that are kept beside the queues.
use Rattle.std.proofs.Common.{◌≡◌, ◌≢◌, ◌<◌, ◌≤◌, ℕ, zero, suc, ◌+◌, ◌^◌, Bool, true, false, ◌&&◌, cond, ltb, List, [], ◌∷◌, length, get_or, set, Option, Some, None, Ok, Err, refl, sym, ◌∙◌, ap, subst, inl, inr, arith}
use Rattle.std.specs.Prelude.{Result, is_some}
use Rattle.std.proofs.lemmas.Bool.{eq-eqb, ne_eqb, cases_eq, lt-ltb, ltb-true, ltb-false}
use Rattle.std.proofs.lemmas.List.{append-nil, get_or_default, get_or-set_same, get_or-set_other, length-set}
use Rattle.mq_block_text.specs.Text.{AreGoodItems}
use Rattle.mq_block_text.specs.Text as items
use Rattle.mq_block_text.specs.declared.item.BlockItem.{BlockItem}
use Rattle.mq_block_trace.specs.Lines.{empty_map, freed_in, named, set_in, transaction_of, writes_from}
use Rattle.mq_block_trace.specs.Marks.{AreMarked, AreMarks, marked}
use Rattle.mq_block_trace.proofs.LinesFills.{named_is}
use Rattle.mq_block_trace.proofs.MarksLines.{live_more}
use Rattle.mq_blocks.specs.Drive.{FuseName}
use Rattle.mq_blocks.specs.Journal.{is_among}
use Rattle.mq_blocks.specs.Machine.{Map, after, or_kept, write_of}
use Rattle.mq_ledger.specs.History.{map_after}
use Rattle.mq_ledger.specs.State.{State}
use Rattle.mq_ledger.specs.declared.tx.Tx.{Tx}
use Rattle.mq_loose_queues.specs.Commits.{IsRequest, MayCommit}
use Rattle.mq_loose_queues.specs.Queues.{QueuesState}
use Rattle.mq_loose_text.specs.Meaning.{after_line, drawn_by, freed_from, line_at, tx_of, waiting_after, waiting_on}
use Rattle.mq_loose_text.specs.Text.{IsGoodLine, queue_count}
use Rattle.mq_loose_text.specs.declared.line.LooseLine.{LooseLine}
use Rattle.mq_loose_text.specs.declared.line.LooseLine.TheVariants.{Commit, Done}
use Rattle.mq_loose_run.specs.Items.{AreItems}
use Rattle.mq_loose_run.specs.Lines.{HasStopped, IsRunning, queue_of, queues_state}
use Rattle.mq_loose_run.specs.Steps.{CommitsTo, DrainsTo, IsNext, IsQuiet, RunsTo}
use Rattle.mq_loose_run.specs.declared.items.Items.{Items}
use Rattle.mq_loose_run.specs.declared.running.Running.{Running}
use Rattle.mq_loose_run.specs.declared.running.Stop.{Stop}
use Rattle.mq_loose_run.specs.declared.running.Stop.TheVariants as stop
use Rattle.mq_loose_run.proofs.AllSides.{commit_cut, committed, cut_short, idled, none_failed, own_queue, rows_long, whole}
use Rattle.mq_loose_run.proofs.Counts.{drawn_few, good_line}
use Rattle.mq_loose_run.proofs.MayCommit.{may, request}
use Rattle.mq_loose_run.proofs.OneSide.{waits_other}
use Rattle.mq_loose_run.proofs.Results.{queue_clean}

-- ---- the blocks of the map behind a commit

-- of the blocks that an item frees, those of the map are freed
freed_among : (m : Map) (is : List BlockItem) (b n x : ℕ) → b ≤ x → x < b + n → is_among x (freed_from m is b n) ≡ (is_among x (freed_in is) && is_some (m x))
freed_among m is b zero x low high = absurd (omega (arith, low, high))
freed_among m is b (suc n) x low high = elim (cases_eq b x) [
  | inl same ↦ here same (is_among b (freed_in is) && is_some (m b)) refl
  | inr other ↦ skip (is_among b (freed_in is) && is_some (m b)) other (freed_among m is (b + 1) n x (let ne : b ≢ x = other in omega (arith, low)) (omega (arith, high)))
]
  where
    late : (b n : ℕ) → x < b → is_among x (freed_from m is b n) ≡ false
    late b zero past = refl
    late b (suc n) past = go (is_among b (freed_in is) && is_some (m b)) (late (b + 1) n (omega (arith, past)))
      where
        go : (t : Bool) → is_among x (freed_from m is (b + 1) n) ≡ false → is_among x (cond t (b ∷ freed_from m is (b + 1) n) (freed_from m is (b + 1) n)) ≡ false
        go true rest = ap (λ (u : Bool). cond u true (is_among x (freed_from m is (b + 1) n))) (ne_eqb b x (λ e. absurd (omega (arith, e, past)))) ∙ rest
        go false rest = rest

    here : b ≡ x → (t : Bool) → (is_among b (freed_in is) && is_some (m b)) ≡ t → is_among x (cond t (b ∷ freed_from m is (b + 1) n) (freed_from m is (b + 1) n)) ≡ (is_among x (freed_in is) && is_some (m x))
    here same true is_true = ap (λ (u : Bool). cond u true (is_among x (freed_from m is (b + 1) n))) (eq-eqb b x same) ∙ sym is_true ∙ ap (λ (k : ℕ). is_among k (freed_in is) && is_some (m k)) same
    here same false is_false = late (b + 1) n (omega (arith, same)) ∙ sym is_false ∙ ap (λ (k : ℕ). is_among k (freed_in is) && is_some (m k)) same

    skip : (t : Bool) → b ≢ x → is_among x (freed_from m is (b + 1) n) ≡ (is_among x (freed_in is) && is_some (m x)) → is_among x (cond t (b ∷ freed_from m is (b + 1) n) (freed_from m is (b + 1) n)) ≡ (is_among x (freed_in is) && is_some (m x))
    skip true other rest = ap (λ (u : Bool). cond u true (is_among x (freed_from m is (b + 1) n))) (ne_eqb b x other) ∙ rest
    skip false other rest = rest

gone : (t : Bool) (o : Option (List ℕ)) → cond (t && is_some o) None o ≡ cond t None o
gone true None = refl
gone true (Some v) = refl
gone false o = refl

-- so the map is as behind the line of a block text
same_map : (h : List Tx) (q number : ℕ) (is : List BlockItem) (x : ℕ) → x < 256 → map_after empty_map (tx_of h q is ∷ h) x ≡ after (map_after empty_map h) (transaction_of number is) x
unfolding after
same_map h q number is x low =
    (λ i. or_kept (write_of (append-nil (writes_from (set_in is) 0 named) i) x) (cond (freed_among (map_after empty_map h) is 0 named x (omega arith) (omega (arith, low, named_is)) i) None (map_after empty_map h x)))
    ∙ ap (or_kept (write_of (writes_from (set_in is) 0 named) x)) (gone (is_among x (freed_in is)) (map_after empty_map h x))

pub marks_line : (h : List Tx) (q : ℕ) (is : List BlockItem) (before now : List Bool) → AreGoodItems is → AreMarks (map_after empty_map h) before → AreMarked is before now → AreMarks (map_after empty_map (tx_of h q is ∷ h)) now
marks_line h q is before now good old line b low =
    line b low ∙ ap (marked is b) (old b low) ∙ sym (live_more is 0 (map_after empty_map h) b good low) ∙ sym (ap is_some (same_map h q 0 is b low))

-- ---- which queues wait

-- the mark of a queue, as it is read
pub read_wait : (waits : List Bool) (q at : ℕ) (x b : Bool) → q < length waits → at ≡ q → x ≡ get_or waits at x → x ≡ b → get_or waits q false ≡ b
read_wait waits q at x b low same is value =
    sym (ap (λ (k : ℕ). get_or waits k false) same) ∙ get_or_default waits at false x (omega (arith, low, same)) ∙ sym is ∙ value

waits_same : (lines : List LooseLine) (n k : ℕ) (waits : List Bool) → queue_of (line_at lines n) ≢ k → get_or waits k false ≡ ltb 0 (waiting_on k lines n) → get_or waits k false ≡ ltb 0 (waiting_on k lines (suc n))
waits_same lines n k waits other is = is ∙ ap (ltb 0) (sym (waits_other k (waiting_on k lines n) (line_at lines n) other))

-- the mark of the line's queue is set anew
waits_set : (lines : List LooseLine) (n q k : ℕ) (waits : List Bool) (b : Bool) → queue_of (line_at lines n) ≡ q → q < length waits → ltb 0 (waiting_on q lines (suc n)) ≡ b → get_or waits k false ≡ ltb 0 (waiting_on k lines n) → get_or (set waits q b) k false ≡ ltb 0 (waiting_on k lines (suc n))
waits_set lines n q k waits b own low is before = elim (cases_eq k q) [
  | inl same ↦ subst (λ (j : ℕ). get_or (set waits q b) j false ≡ ltb 0 (waiting_on j lines (suc n))) (sym same) (get_or-set_same waits q b false low ∙ sym is)
  | inr other ↦ get_or-set_other waits q k b false other ∙ waits_same lines n k waits (λ e. other (sym e ∙ own)) before
]

-- ---- a commit

module _ (q : ℕ) (is : List BlockItem) (fuse : FuseName) (start : State) (lines : List LooseLine) (n : ℕ) (next : IsNext lines n (Commit q is)) (r : Running) (run : IsRunning fuse start lines n r) where
  line_is : IsGoodLine (Commit q is)
  line_is = subst IsGoodLine next.is (good_line lines n next.good next.inside)

  pub commit_low : q < queue_count
  commit_low = line_is.0

  pub commit_good : AreGoodItems is
  commit_good = of is line_is.1
    where
      of : (is : List BlockItem) → items.IsGoodLine is → AreGoodItems is
      of [] g = absurd g
      of (i ∷ is) g = g

  module _ (i : Items) (are : AreItems is r.marks.items i) where
    frees_are : i.frees.items ≡ freed_from (map_after empty_map (drawn_by lines n)) is 0 named
    frees_are = are.frees (map_after empty_map (drawn_by lines n)) run.kept.marks_are

    pub line_request : IsRequest (queues_state r.queues) q i.writes.items i.frees.items
    line_request = request fuse start lines n q is (queues_state r.queues) next run.run commit_low commit_good i.writes.items i.frees.items are.writes frees_are

    pub line_may : MayCommit (queues_state r.queues) q (length i.writes.items) (length i.frees.items)
    line_may = may fuse start lines n q is (queues_state r.queues) next run.run commit_low commit_good i.writes.items i.frees.items are.writes frees_are

    pub line_few : length (queues_state r.queues).rows < 2 ^ 62
    line_few = (let long = rows_long fuse start lines n (queues_state r.queues) run.run in let inside = next.inside in let few = drawn_few n lines next.good (omega (arith, inside)) in omega (arith, long, few))

    pub commit_stopped : (v : QueuesState) → CommitsTo {A = ℕ} (queues_state r.queues) q i.writes.items i.frees.items (Err stop.Off) v → HasStopped fuse start lines n v
    commit_stopped v c = commit_cut fuse start lines n q is (queues_state r.queues) v next run.run commit_low line_is.1 i.writes.items i.frees.items are.writes frees_are c.1.1 c.0 c.1.2

    pub commit_fails : (A : Type 0) {B : Type 0} (e : Stop) (w : Running) (result : Result B Stop) → CommitsTo {A = A} (queues_state r.queues) q i.writes.items i.frees.items (Err e) (queues_state w.queues) → result ≡ Err e → RunsTo fuse start lines n result w
    commit_fails A {B = B} stop.Off w result c is = subst (λ (o : Result B Stop). RunsTo fuse start lines n o w) (sym is) (commit_stopped (queues_state w.queues) c)
    commit_fails A {B = B} stop.OutOfMemory w result c is = subst (λ (o : Result B Stop). RunsTo fuse start lines n o w) (sym is) tt

    pub commit_done : (w : Running) → CommitsTo {A = ℕ} (queues_state r.queues) q i.writes.items i.frees.items (Ok 0) (queues_state w.queues) → w.marks.items ≡ i.marks.items → w.waits.items ≡ set r.waits.items q true → IsRunning fuse start lines (suc n) w
    commit_done w c marks waits =
        let own : queue_of (line_at lines n) ≡ q = ap queue_of next.is in
        let drawn : tx_of (drawn_by lines n) q is ∷ drawn_by lines n ≡ drawn_by lines (suc n) = sym (ap (λ (l : LooseLine). after_line l (drawn_by lines n)) next.is) in
        let waiting : waiting_on q lines (suc n) ≡ waiting_on q lines n + (items.sets_in is + 1) = ap (λ (l : LooseLine). waiting_after q l (waiting_on q lines n)) next.is ∙ ap (λ (b : Bool). cond b (waiting_on q lines n + (items.sets_in is + 1)) (waiting_on q lines n)) (eq-eqb q q refl) in
        let long = run.kept.count in
        let low = commit_low in
        record {
          run = committed fuse start lines n q is (queues_state r.queues) (queues_state w.queues) next run.run commit_low line_is.1 i.writes.items i.frees.items are.writes frees_are c.1.1 c.0 c.1.2;
          kept = record {
            whole = ap length marks ∙ are.whole;
            marks_are = subst (λ (h : List Tx). AreMarks (map_after empty_map h) w.marks.items) drawn (subst (AreMarks (map_after empty_map (tx_of (drawn_by lines n) q is ∷ drawn_by lines n))) (sym marks) (marks_line (drawn_by lines n) q is r.marks.items i.marks.items commit_good run.kept.marks_are are.marked));
            count = ap length waits ∙ length-set r.waits.items q true ∙ run.kept.count;
            waits_are = λ k inside. ap (λ (l : List Bool). get_or l k false) waits ∙ waits_set lines n q k r.waits.items true own (omega (arith, low, long)) (lt-ltb 0 (waiting_on q lines (suc n)) (omega (arith, waiting))) (run.kept.waits_are k inside);
          };
        }

-- ---- a drain

module _ (q : ℕ) (fuse : FuseName) (start : State) (lines : List LooseLine) (n : ℕ) (next : IsNext lines n (Done q)) (r : Running) (run : IsRunning fuse start lines n r) where
  pub done_low : q < queue_count
  done_low = (let line : IsGoodLine (Done q) = subst IsGoodLine next.is (good_line lines n next.good next.inside) in line)

  pub waits_long : q < length r.waits.items
  waits_long = (let low = done_low in let long = run.kept.count in omega (arith, low, long))

  pub sides_long : q < length (queues_state r.queues).sides
  sides_long = (let low = own_queue fuse start lines n (queues_state r.queues) run.run q done_low in let long = run.run.drawn.journal.count in omega (arith, low, long))

  pub line_quiet : IsQuiet (queues_state r.queues) q
  line_quiet = record {
    kept = (run.run.sides q done_low).kept;
    failed = none_failed fuse start lines n (queues_state r.queues) run.run q done_low;
    fail = (run.run.sides q done_low).happened.fail;
  }

  done_drawn : drawn_by lines n ≡ drawn_by lines (suc n)
  done_drawn = sym (ap (λ (l : LooseLine). after_line l (drawn_by lines n)) next.is)

  done_waits : waiting_on q lines (suc n) ≡ 0
  done_waits = ap (λ (l : LooseLine). waiting_after q l (waiting_on q lines n)) next.is ∙ ap (λ (b : Bool). cond b 0 (waiting_on q lines n)) (eq-eqb q q refl)

  done_own : queue_of (line_at lines n) ≡ q
  done_own = ap queue_of next.is

  marks_then : AreMarks (map_after empty_map (drawn_by lines (suc n))) r.marks.items
  marks_then = subst (λ (h : List Tx). AreMarks (map_after empty_map h) r.marks.items) done_drawn run.kept.marks_are

  none_waits : get_or r.waits.items q false ≡ false → waiting_on q lines n ≡ 0
  none_waits none = (let l = ltb-false 0 (waiting_on q lines n) (sym (run.kept.waits_are q done_low) ∙ none) in omega (arith, l))

  -- where nothing waits
  pub done_idle : get_or r.waits.items q false ≡ false → IsRunning fuse start lines (suc n) r
  done_idle none = record {
    run = idled fuse start lines n q (queues_state r.queues) next run.run done_low (none_waits none);
    kept = record {
      whole = run.kept.whole;
      marks_are = marks_then;
      count = run.kept.count;
      waits_are = λ k inside. elim (cases_eq k q) [
        | inl same ↦ subst (λ (j : ℕ). get_or r.waits.items j false ≡ ltb 0 (waiting_on j lines (suc n))) (sym same) (none ∙ sym (ap (ltb 0) done_waits))
        | inr other ↦ waits_same lines n k r.waits.items (λ e. other (sym e ∙ done_own)) (run.kept.waits_are k inside)
      ];
    };
  }

  module _ (some : get_or r.waits.items q false ≡ true) where
    some_waits : 0 < waiting_on q lines n
    some_waits = ltb-true 0 (waiting_on q lines n) (sym (run.kept.waits_are q done_low) ∙ some)

    pub done_whole : (w : Running) → DrainsTo {A = ℕ} (queues_state r.queues) q (Ok 0) (queues_state w.queues) → w.marks.items ≡ r.marks.items → w.waits.items ≡ set r.waits.items q false → IsRunning fuse start lines (suc n) w
    done_whole w d marks waits = record {
      run = whole fuse start lines n q (queues_state r.queues) next run.run done_low (queues_state w.queues) some_waits (queue_clean w.queues.parts q (d.1.drains.bound.fail ∙ (run.run.sides q done_low).happened.fail)) d.0 d.1;
      kept = record {
        whole = ap length marks ∙ run.kept.whole;
        marks_are = subst (AreMarks (map_after empty_map (drawn_by lines (suc n)))) (sym marks) marks_then;
        count = ap length waits ∙ length-set r.waits.items q false ∙ run.kept.count;
        waits_are = λ k inside. ap (λ (l : List Bool). get_or l k false) waits ∙ waits_set lines n q k r.waits.items false done_own waits_long (ap (ltb 0) done_waits) (run.kept.waits_are k inside);
      };
    }

    pub done_stopped : (w : Running) → DrainsTo {A = ℕ} (queues_state r.queues) q (Err stop.Off) (queues_state w.queues) → HasStopped fuse start lines n (queues_state w.queues)
    done_stopped w d = cut_short fuse start lines n q (queues_state r.queues) next run.run done_low (queues_state w.queues) some_waits (queue_clean w.queues.parts q (d.drains.bound.fail ∙ (run.run.sides q done_low).happened.fail)) d

    pub done_fails : (A : Type 0) {B : Type 0} (e : Stop) (w : Running) (result : Result B Stop) → DrainsTo {A = A} (queues_state r.queues) q (Err e) (queues_state w.queues) → result ≡ Err e → RunsTo fuse start lines n result w
    done_fails A {B = B} stop.Off w result d is = subst (λ (o : Result B Stop). RunsTo fuse start lines n o w) (sym is) (done_stopped w d)
    done_fails A {B = B} stop.OutOfMemory w result d is = absurd d
