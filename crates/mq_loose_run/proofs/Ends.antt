-- How a run ends: what is settled then, and the set of each image that a cut leaves.
use Rattle.std.proofs.Common.{◌≡◌, ◌≢◌, ◌<◌, ◌≤◌, ℕ, zero, suc, ◌+◌, Bool, true, false, ◌&&◌, cond, eqb, leb, List, [], ◌∷◌, length, Option, Some, None, refl, sym, ◌∙◌, ap, subst, inl, inr, arith}
use Rattle.std.proofs.lemmas.Bool.{cases_eq, eq-eqb, ne_eqb, le-leb, false_from_ne_true}
use Rattle.mq_block_text.specs.Text.{AreGoodItems, sets_in}
use Rattle.mq_block_text.specs.Text as items
use Rattle.mq_block_text.specs.declared.item.BlockItem.{BlockItem}
use Rattle.mq_block_trace.specs.Lines.{named, set_in, writes_from}
use Rattle.mq_block_trace.proofs.LinesFills.{length-writes, length-writes_sets, named_is}
use Rattle.mq_blocks.specs.Descriptor.{further_for}
use Rattle.mq_blocks.specs.Drive.{FuseName, PortImage, PortState}
use Rattle.mq_blocks.proofs.DescriptorLimits.{further-none}
use Rattle.mq_core.specs.Whole.{is_whole}
use Rattle.mq_ledger.specs.History.{IsAt, of_queue, writes}
use Rattle.mq_ledger.specs.Items.{descriptor_blocks, end_of, total}
use Rattle.mq_ledger.specs.State.{AreImages, State, from_at, is_done, port_at}
use Rattle.mq_ledger.specs.declared.tx.Tx.{Tx}
use Rattle.mq_ledger.proofs.HistoryQueues.{at_end, at_own}
use Rattle.mq_loose.specs.Guards.{settled}
use Rattle.mq_loose_order.specs.Dependence.{closure}
use Rattle.mq_loose_order.proofs.Closed.{closure-high}
use Rattle.mq_loose_queues.specs.Journal.{IsJournal, state_over}
use Rattle.mq_loose_queues.specs.Queues.{QueuesState, at_queue, ports_of}
use Rattle.mq_loose_queues.proofs.Ports.{port_is}
use Rattle.mq_loose_text.specs.Meaning.{EndsWithin, IsSetIn, after_line, done_by_line, done_on, drawn_by, events_of_line, events_upto, happens, line_at, newest_on, rung_on, rung_upto, settled_in, tx_of, waiting_on}
use Rattle.mq_loose_text.specs.Text.{IsGoodLine, IsGoodText, queue_count}
use Rattle.mq_loose_text.specs.declared.line.LooseLine.{LooseLine}
use Rattle.mq_loose_text.specs.declared.line.LooseLine.TheVariants.{Commit, Done}
use Rattle.mq_loose_run.specs.Lines.{HasDrawn, HasRun, HasStopped, queue_of}
use Rattle.mq_loose_run.proofs.Counts.{done_low, drawn_numbered, good_line, newest_high, part, queue_is, rung_next}
use Rattle.mq_loose_run.proofs.CutPlaces.{closure_same, cut_done, cut_rung, early_done, early_rung, right_done, settled_at, up_to}
use Rattle.mq_loose_run.proofs.ImageSets.{image, image_head, st, the_set, whole_is}

-- ---- the entries of a queue's transactions are those that the lines ring

total_line : (q : ℕ) (l : LooseLine) (h : List Tx) → IsGoodLine l → total (of_queue q (after_line l h)) ≡ total (of_queue q h) + part q l
total_line q (Commit r is) h good = go (eqb r q)
  where
    items_good : (is : List BlockItem) → items.IsGoodLine is → AreGoodItems is
    items_good [] g = absurd g
    items_good (i ∷ is) g = g

    sets : length (writes_from (set_in is) 0 named) ≡ sets_in is
    sets = length-writes_sets is (items_good is good.1)

    one : further_for (length (writes_from (set_in is) 0 named) + 0) ≡ 0
    one = further-none _ (let l = length-writes (set_in is) 0 named in let e = named_is in omega (arith, l, e))

    go : (b : Bool) → total (cond b (tx_of h r is ∷ of_queue q h) (of_queue q h)) ≡ total (of_queue q h) + cond b (sets_in is + 1) 0
    go true = omega (arith, sets, one)
    go false = omega arith
total_line q (Done r) h good = omega arith

pub total_rung : (q n : ℕ) (lines : List LooseLine) → IsGoodText lines → n ≤ length lines → total (of_queue q (drawn_by lines n)) ≡ rung_upto None q lines n
total_rung q zero lines good low = refl
total_rung q (suc n) lines good low =
    let one = total_line q (line_at lines n) (drawn_by lines n) (good_line lines n good (omega (arith, low))) in
    let before = total_rung q n lines good (omega (arith, low)) in
    let next = rung_next q n lines in
    omega (arith, one, before, next)

-- ---- of a journal by the first p lines, where what is done of each queue is so after the first n

-- what the queues say is settled is what the lines say is settled under a cut, where nothing more is done after it
pub settled_same : (cut : Option ℕ) (lines : List LooseLine) (start : State) (n p : ℕ) (fuse : FuseName) (v : QueuesState) → HasDrawn start lines (drawn_by lines p) n fuse v → n ≤ p → p ≤ length lines → ((q : ℕ) → done_on cut q lines (length lines) ≡ done_on None q lines n) → ((q : ℕ) → done_on None q lines n ≤ length (drawn_by lines p))
    → (m : ℕ) → settled (state_over start (drawn_by lines p) [] v) m ≡ settled_in cut lines m
settled_same cut lines start n p fuse v d low high done few m =
    closure_same (is_done start.starts (ports_of v)) (up_to (λ q. done_on None q lines n)) start.base (drawn_by lines p) (λ t ts at. d.done t ts at) m
    ∙ ap (λ (b : ℕ). closure (up_to (λ q. done_on None q lines n)) b (drawn_by lines p) m) d.start_is.base
    ∙ sym (settled_at cut lines (λ q. done_on None q lines n) p m high done few)

-- so is the set of an image, where its heads say what is done so
pub set_same : (cut : Option ℕ) (lines : List LooseLine) (start : State) (f : ℕ → ℕ) (p : ℕ) (v : QueuesState) (j : IsJournal start (drawn_by lines p) v) (base : start.base ≡ 0) (queues : List PortImage) (root : PortImage) (it : AreImages (state_over start (drawn_by lines p) [] v) queues root)
    → ((t : Tx) (ts : List Tx) → IsAt t ts (drawn_by lines p) → leb (end_of (from_at start.starts t.queue) (of_queue t.queue ts) + (writes t + descriptor_blocks t)) ((image start (drawn_by lines p) v j base queues root it).head t.queue) ≡ leb t.number (f t.queue))
    → p ≤ length lines → ((q : ℕ) → done_on cut q lines (length lines) ≡ f q) → ((q : ℕ) → f q ≤ length (drawn_by lines p))
    → (m : ℕ) → the_set start (drawn_by lines p) v j base queues root it m ≡ settled_in cut lines m
set_same cut lines start f p v j base queues root it heads high done few m =
    closure_same (is_whole (st start (drawn_by lines p) v j base queues root it) (image start (drawn_by lines p) v j base queues root it)) (up_to f) start.base (drawn_by lines p) (λ t ts at. whole_is start (drawn_by lines p) v j base queues root it t ts at ∙ heads t ts at) m
    ∙ ap (λ (b : ℕ). closure (up_to f) b (drawn_by lines p) m) base
    ∙ sym (settled_at cut lines f p m high done few)

-- no number above those that were drawn is in the set of an image
pub set_low : (start : State) (h : List Tx) (v : QueuesState) (j : IsJournal start h v) (base : start.base ≡ 0) (queues : List PortImage) (root : PortImage) (it : AreImages (state_over start h [] v) queues root) (m : ℕ) → 1 + length h ≤ m → the_set start h v j base queues root it m ≡ false
set_low start h v j base queues root it m past =
    false_from_ne_true _ (λ e. let l = closure-high (is_whole (st start h v j base queues root it) (image start h v j base queues root it)) start.base h m j.log.numbers e in absurd (omega (arith, l, past, base)))

-- ---- the settled numbers of the drawn transactions

-- a settled number is one of those that were drawn
pub settled_low : (cut : Option ℕ) (lines : List LooseLine) (f : ℕ → ℕ) (p : ℕ) → p ≤ length lines → ((q : ℕ) → done_on cut q lines (length lines) ≡ f q) → ((q : ℕ) → f q ≤ length (drawn_by lines p)) → (m : ℕ) → 1 + length (drawn_by lines p) ≤ m → settled_in cut lines m ≡ false
settled_low cut lines f p high done few m past =
    settled_at cut lines f p m high done few
    ∙ false_from_ne_true _ (λ e. let l = closure-high (up_to f) 0 (drawn_by lines p) m (drawn_numbered p lines) e in absurd (omega (arith, l, past)))

-- ---- the whole text was run

module _ (fuse : FuseName) (start : State) (lines : List LooseLine) (v : QueuesState) (cut : Option ℕ) (r : HasRun fuse start lines (length lines) v) (in_time : happens cut (events_upto lines (length lines)) ≡ true) where
  end_done : (q : ℕ) → done_on cut q lines (length lines) ≡ done_on None q lines (length lines)
  end_done q = early_done cut q (length lines) lines in_time

  end_few : (q : ℕ) → done_on None q lines (length lines) ≤ length (drawn_by lines (length lines))
  end_few q = done_low q (length lines) lines

  pub end_settled : (m : ℕ) → settled (state_over start (drawn_by lines (length lines)) [] v) m ≡ settled_in cut lines m
  end_settled = settled_same cut lines start (length lines) (length lines) fuse v r.drawn (omega arith) (omega arith) end_done end_few

  pub end_rung : (q : ℕ) → q < queue_count → (at_queue v q).side.port.doorbell ≡ rung_on cut q lines
  end_rung q low = (r.sides q low).rung ∙ sym (early_rung cut q (length lines) lines in_time)

  pub end_set : (queues : List PortImage) (root : PortImage) (it : AreImages (state_over start (drawn_by lines (length lines)) [] v) queues root) → (m : ℕ) → the_set start (drawn_by lines (length lines)) v r.drawn.journal r.drawn.start_is.base queues root it m ≡ settled_in cut lines m
  end_set queues root it =
      set_same cut lines start (λ q. done_on None q lines (length lines)) (length lines) v r.drawn.journal r.drawn.start_is.base queues root it
      (λ t ts at. ap (leb _) (head t ts at) ∙ r.drawn.done t ts at) (omega arith) end_done end_few
    where
      head : (t : Tx) (ts : List Tx) → IsAt t ts (drawn_by lines (length lines)) → (image start (drawn_by lines (length lines)) v r.drawn.journal r.drawn.start_is.base queues root it).head t.queue ≡ (port_at (ports_of v) t.queue).head
      head t ts at =
          let own = (r.drawn.journal.log.each t ts at).0.queue in
          let low : t.queue < queue_count = (let g = r.drawn.start_is.geometry_is.queues in omega (arith, own, g, queue_is)) in
          elim (image_head start (drawn_by lines (length lines)) v r.drawn.journal r.drawn.start_is.base queues root it t.queue own) [
            | inl is ↦ is ∙ sym (ap (λ (p : PortState). p.head) (port_is v t.queue))
            | inr is ↦ is ∙ (r.sides t.queue low).stored ∙ sym (ap (λ (p : PortState). p.head) (port_is v t.queue))
          ]

-- ---- the power went off in a line

module _ (fuse : FuseName) (start : State) (lines : List LooseLine) (good : IsGoodText lines) (n : ℕ) (v : QueuesState) (r : HasStopped fuse start lines n v) where
  abbrev pub k : ℕ
  k = events_upto lines n + r.events

  abbrev h : List Tx
  h = drawn_by lines (suc n)

  past : k < events_upto lines (suc n)
  past = (let few = r.cut.few in omega (arith, few))

  stop_done : (q : ℕ) → done_on (Some k) q lines (length lines) ≡ done_on None q lines n
  stop_done q = cut_done k n lines past q (length lines) (let l = r.inside in omega (arith, l)) (omega arith)

  more_drawn : length (drawn_by lines n) ≤ length h
  more_drawn = line_more (line_at lines n)
    where
      line_more : (l : LooseLine) → length (drawn_by lines n) ≤ length (after_line l (drawn_by lines n))
      line_more (Commit q is) = omega arith
      line_more (Done q) = omega arith

  stop_few : (q : ℕ) → done_on None q lines n ≤ length h
  stop_few q = (let l = done_low q n lines in let m = more_drawn in omega (arith, l, m))

  within : suc n ≤ length lines
  within = (let l = r.inside in omega (arith, l))

  pub stop_settled : (m : ℕ) → settled (state_over start h [] v) m ≡ settled_in (Some k) lines m
  stop_settled = settled_same (Some k) lines start n (suc n) fuse v r.drawn (omega arith) within stop_done stop_few

  pub stop_rung : (q : ℕ) → q < queue_count → (at_queue v q).side.port.doorbell ≡ rung_on (Some k) q lines
  stop_rung q low = elim (cases_eq q (queue_of (line_at lines n))) [
    | inl same ↦ subst (λ (m : ℕ). (at_queue v m).side.port.doorbell ≡ rung_upto None m lines n) (sym same) r.cut.rung
    | inr other ↦ (r.others q low other).rung
  ] ∙ sym (cut_rung k n lines past q (length lines) (let l = r.inside in omega (arith, l)) (omega arith))

  -- ---- the set of an image

  module _ (queues : List PortImage) (root : PortImage) (it : AreImages (state_over start h [] v) queues root) where
    abbrev S : ℕ → Bool
    S = the_set start h v r.drawn.journal r.drawn.start_is.base queues root it

    abbrev heads : ℕ → ℕ
    heads q = (image start h v r.drawn.journal r.drawn.start_is.base queues root it).head q

    own_low : (q : ℕ) → q < start.geometry.queues → q < queue_count
    own_low q own = (let g = r.drawn.start_is.geometry_is.queues in omega (arith, own, g, queue_is))

    -- on the other queues the head is the flushed one
    other_head : (q : ℕ) → q < start.geometry.queues → q ≢ queue_of (line_at lines n) → heads q ≡ (port_at (ports_of v) q).head
    other_head q own other = elim (image_head start h v r.drawn.journal r.drawn.start_is.base queues root it q own) [
      | inl is ↦ is ∙ sym (ap (λ (p : PortState). p.head) (port_is v q))
      | inr is ↦ is ∙ (r.others q (own_low q own) other).stored ∙ sym (ap (λ (p : PortState). p.head) (port_is v q))
    ]

    -- where the head of the line's queue is the flushed one too
    flushed_set : heads (queue_of (line_at lines n)) ≡ (at_queue v (queue_of (line_at lines n))).side.port.head → (m : ℕ) → S m ≡ settled_in (Some k) lines m
    flushed_set at_head =
        set_same (Some k) lines start (λ q. done_on None q lines n) (suc n) v r.drawn.journal r.drawn.start_is.base queues root it
        (λ t ts at. ap (leb _) (each t.queue (r.drawn.journal.log.each t ts at).0.queue) ∙ r.drawn.done t ts at) within stop_done stop_few
      where
        each : (q : ℕ) → q < start.geometry.queues → heads q ≡ (port_at (ports_of v) q).head
        each q own = elim (cases_eq q (queue_of (line_at lines n))) [
          | inl same ↦ subst (λ (m : ℕ). heads m ≡ (port_at (ports_of v) m).head) (sym same) (at_head ∙ sym (ap (λ (p : PortState). p.head) (port_is v (queue_of (line_at lines n)))))
          | inr other ↦ other_head q own other
        ]

    -- where it is the stored one of a drain, behind all that was rung
    module _ (d : ℕ) (line : line_at lines n ≡ Done d) (last : events_of_line lines n (Done d) ≡ r.events + 1) (stored : (at_queue v d).side.port.stored_head ≡ (at_queue v d).side.port.doorbell) (at_stored : heads d ≡ (at_queue v d).side.port.stored_head) where
      same_drawn : drawn_by lines (suc n) ≡ drawn_by lines n
      same_drawn = ap (λ (l : LooseLine). after_line l (drawn_by lines n)) line

      end_at : k + 1 ≡ events_upto lines (suc n)
      end_at = (let e = ap (λ (l : LooseLine). events_of_line lines n l) line in omega (arith, e, last))

      done_then : (q : ℕ) → done_on None q lines (suc n) ≡ cond (eqb d q) (newest_on q (drawn_by lines n)) (done_on None q lines n)
      done_then q = ap (λ (l : LooseLine). done_by_line None q lines n l (done_on None q lines n)) line ∙ ap (λ (b : Bool). cond b (newest_on q (drawn_by lines n)) (done_on None q lines n)) (and_same (eqb d q))
        where
          and_same : (b : Bool) → (b && true) ≡ b
          and_same true = refl
          and_same false = refl

      d_is : queue_of (line_at lines n) ≡ d
      d_is = ap queue_of line

      -- all that was drawn on the drained queue is rung
      rung_end : (at_queue v d).side.port.doorbell ≡ end_of (from_at start.starts d) (of_queue d h)
      rung_end =
          let bell : (at_queue v d).side.port.doorbell ≡ rung_upto None d lines n = subst (λ (m : ℕ). (at_queue v m).side.port.doorbell ≡ rung_upto None m lines n) d_is r.cut.rung in
          let inside = r.inside in
          let all = total_rung d n lines good (omega (arith, inside)) in
          let same : total (of_queue d h) ≡ total (of_queue d (drawn_by lines n)) = ap (λ (us : List Tx). total (of_queue d us)) same_drawn in
          let from = r.drawn.start_is.starts d in
          omega (arith, bell, all, same, from)

      stored_set : (m : ℕ) → S m ≡ settled_in (Some (k + 1)) lines m
      stored_set =
          set_same (Some (k + 1)) lines start (λ q. done_on None q lines (suc n)) (suc n) v r.drawn.journal r.drawn.start_is.base queues root it each within
          (λ q. right_done (k + 1) (suc n) lines end_at q (length lines) within) (λ q. done_low q (suc n) lines)
        where
          each : (t : Tx) (ts : List Tx) → IsAt t ts h → leb (end_of (from_at start.starts t.queue) (of_queue t.queue ts) + (writes t + descriptor_blocks t)) (heads t.queue) ≡ leb t.number (done_on None t.queue lines (suc n))
          each t ts at = elim (cases_eq t.queue d) [
            | inl own ↦
                let inside = at_end (from_at start.starts d) t (of_queue d ts) (of_queue d h) (at_own d t ts h at own) in
                let below : end_of (from_at start.starts t.queue) (of_queue t.queue ts) + (writes t + descriptor_blocks t) ≤ heads t.queue = rw own (let a = at_stored in let b = stored in let e = rung_end in omega (arith, inside, a, b, e)) in
                le-leb _ _ below
                ∙ sym (ap (leb t.number) (done_then t.queue ∙ ap (λ (b : Bool). cond b (newest_on t.queue (drawn_by lines n)) (done_on None t.queue lines n)) (eq-eqb d t.queue (sym own))) ∙ le-leb _ _ (newest_high t.queue t ts (drawn_by lines n) (drawn_numbered n lines) (subst (IsAt t ts) same_drawn at) refl))
            | inr other ↦
                ap (leb _) (other_head t.queue (r.drawn.journal.log.each t ts at).0.queue (λ e. other (e ∙ d_is))) ∙ r.drawn.done t ts at
                ∙ sym (ap (leb t.number) (done_then t.queue ∙ ap (λ (b : Bool). cond b (newest_on t.queue (drawn_by lines n)) (done_on None t.queue lines n)) (ne_eqb d t.queue (λ e. other (sym e)))))
          ]

      ends_within : EndsWithin lines (Some k)
      ends_within = (n, d, r.inside, line, some_wait, sym end_at)
        where
          some_wait : 0 < waiting_on d lines n
          some_wait = elim (cases_eq (waiting_on d lines n) 0) [
            | inl none ↦ absurd (let e = ap (λ (b : Bool). cond b 0 (waiting_on d lines n + 2)) (sym (eq-eqb (waiting_on d lines n) 0 none)) in omega (arith, e, last))
            | inr some ↦ (let ne : waiting_on d lines n ≢ 0 = some in omega arith)
          ]

    pub stop_set : IsSetIn (Some k) lines S
    stop_set = elim (image_head start h v r.drawn.journal r.drawn.start_is.base queues root it (queue_of (line_at lines n)) (let o = r.own in let g = r.drawn.start_is.geometry_is.queues in omega (arith, o, g, queue_is))) [
      | inl is ↦ inl (λ j m. flushed_set is m j)
      | inr is ↦ elim r.cut.stored [
        | inl same ↦ inl (λ j m. flushed_set (is ∙ same) m j)
        | inr between ↦
            let (line, last, stored) = between in
            let q = queue_of (line_at lines n) in
            inr (ends_within q line last stored is, (λ j m. stored_set q line last stored is m j))
      ]
    ]
