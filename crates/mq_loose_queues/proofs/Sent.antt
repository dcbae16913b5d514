-- The queues after a commit was drawn and sent.
use Rattle.std.proofs.Common.{◌≡◌, ◌≢◌, ℕ, ◌+◌, ◌<◌, ◌≤◌, ◌^◌, All, List, [], ◌∷◌, length, None, reverse, sym, refl, ap, subst, ◌∙◌, inl, inr, arith}
use Rattle.std.proofs.lemmas.List.{length-map}
use Rattle.mq_blocks.specs.Descriptor.{DescriptorForm, further_block, journal_form, last_block}
use Rattle.mq_blocks.specs.Machine.{Writes}
use Rattle.mq_blocks.proofs.DescriptorLimits.{further-none}
use Rattle.mq_ledger.specs.History.{blocks_of, of_queue}
use Rattle.mq_ledger.specs.Items.{descriptor_for, next, number_before, place_before}
use Rattle.mq_ledger.specs.KnownJournal.{KnownJournal}
use Rattle.mq_ledger.specs.State.{State}
use Rattle.mq_ledger.specs.declared.tx.Tx.{Tx}
use Rattle.mq_ledger.proofs.Items.{of_queue-other, of_queue-own}
use Rattle.mq_loose.specs.Rows.{row_for}
use Rattle.mq_loose_order.specs.Dependence.{deps_of}
use Rattle.mq_loose_order.specs.Form.{loose_bytes, loose_form}
use Rattle.mq_loose_order.proofs.Closed.{deps-at}
use Rattle.mq_loose_order.proofs.Dependences.{deps_few}
use Rattle.mq_loose_order.proofs.FormSound.{few-from, loose-last}
use Rattle.mq_queue_side.specs.Commits.{Commit, NumberedCommit, commit_of, commit_of_tx, descriptor_with, further_of, further_where}
use Rattle.mq_queue_side.specs.Sent.{IsReady, Sends}
use Rattle.mq_queue_side.specs.Side.{IsQueueSide, IsRung}
use Rattle.mq_queue_side.specs.Stored.{Row, numbered_in, rows_for}
use Rattle.mq_queue_side.proofs.Stored.{numbering}
use Rattle.mq_loose_queues.specs.Commits.{IsRequest, MayCommit}
use Rattle.mq_loose_queues.specs.Journal.{IsJournal, known_over, loose_tx}
use Rattle.mq_loose_queues.specs.Queues.{QueuesState, at_queue, next_number}
use Rattle.mq_blocks.specs.Descriptor.{AreRising}
use Rattle.mq_blocks.specs.Drive.{PortState}
use Rattle.mq_blocks.specs.Geometry.{homes_of}
use Rattle.mq_loose.specs.Rows.{loose_rows}
use Rattle.mq_loose.specs.Safe.{IsPlain}
use Rattle.mq_loose_queues.specs.Changes.{AreChanges, after_commit}
use Rattle.mq_loose_queues.specs.Commits.{HeadsStay}
use Rattle.mq_loose_queues.specs.Journal.{AreFlags}
use Rattle.mq_loose_queues.specs.Queues.{StoredSide}
use Rattle.mq_loose_queues.proofs.Drawn.{log_then, numbers, other_then, own, own_then, root_then, rung}
use Rattle.mq_loose_queues.proofs.Heads.{head_stays, log_passed, passed, side_passed}
use Rattle.mq_loose_queues.proofs.Ports.{port_is}
use Rattle.mq_loose_queues.proofs.Sides.{IsMoved, each_side, same_count}
use Rattle.mq_loose_queues.proofs.Tables.{table_then}

module _ (s : State) (h : List Tx) (v : QueuesState) (q : ℕ) (ws : Writes) (frees : List ℕ) (j : IsJournal s h v) (request : IsRequest v q ws frees) (whole : All (λ w. length w.1 ≡ 4096) ws) (may : MayCommit v q (length ws) (length frees)) (few : length v.rows < 2 ^ 62) where
  abbrev t : Tx
  t = loose_tx (next_number v) q ws frees

  abbrev us : List Tx
  us = of_queue q h

  abbrev form : DescriptorForm
  form = loose_form (deps_of s.base (t ∷ h))

  -- the last block of its descriptor
  last_is : last_block form 1 (descriptor_for t us) ≡ loose_bytes (row_for s.base s.starts t h).descriptor (row_for s.base s.starts t h).deps
  last_is =
      let d = descriptor_for t us in
      let long : length (blocks_of ws) ≡ length ws = length-map ws (λ (w : ℕ × List ℕ). w.0) in
      let on = deps-at s.base t h (t ∷ h) (numbers s h v q ws frees j request whole may few) (inl (refl, refl)) in
      let size = ap (λ (ns : List ℕ). length ns) on in
      loose-last (deps_of s.base (t ∷ h)) d (few-from d refl (omega (arith, long, may.few))) (omega (arith, size, may.few, deps_few s.base t h)) ∙ ap (loose_bytes d) on

  -- what is numbered, with this last block, is the commit in the loose form
  pub numbered_is : (rows : List Row) (commit : Commit) (last : List ℕ) → rows ≡ rows_for us → commit ≡ commit_of_tx t → last ≡ loose_bytes (row_for s.base s.starts t h).descriptor (row_for s.base s.starts t h).deps
      → record (numbered_in journal_form q (next_number v) rows commit) { last = last } ≡ commit_of form t us
  numbered_is rows commit last stored tells written =
      let none : further_of (commit_of_tx t) ≡ 0 = further-none (length ws + 0) (omega (arith, may.few)) in
      let before : (commit_of journal_form t us).further ≡ [] = ap (λ k. further_where k (further_block journal_form journal_form.version (descriptor_with (commit_of_tx t) t.queue t.number (next us) (place_before us) (number_before us)))) none in
      let after : (commit_of form t us).further ≡ [] = ap (λ k. further_where k (further_block form form.version (descriptor_with (commit_of_tx t) t.queue t.number (next us) (place_before us) (number_before us)))) none in
      (λ i. record (numbered_in journal_form q (next_number v) (stored i) (tells i)) { last = (written ∙ sym last_is) i })
      ∙ (ap (λ (n : NumberedCommit). record n { last = last_block form 1 (descriptor_for t us) }) (numbering journal_form t us)
      ∙ (λ i. record (commit_of form t us) { further = (before ∙ sym after) i }))

  pub is_ready : (n : NumberedCommit) → n ≡ commit_of form t us → IsReady (known_over s (t ∷ h)) q (t ∷ us) (at_queue v q).side n
  is_ready n is = record { t = t; ts = us; newest = refl; commit = is; rung = rung s h v q ws frees j request whole may few; none = may.runs }

  module _ (d : StoredSide) (w : QueuesState) (m : IsMoved v q d w) (n : NumberedCommit) (numbered : n ≡ commit_of form t us) (sends : Sends (at_queue v q).side n d.side) where
    abbrev k2 : KnownJournal
    k2 = known_over s (t ∷ h)

    within : q < length v.sides
    within = omega (arith, own s h v q ws frees j request whole may few, j.count)

    pub side_then : IsQueueSide k2 q (t ∷ us) d.side
    side_then = sends q k2 (t ∷ us) (log_then s h v q ws frees j request whole may few) (is_ready n numbered) (own_then s h v q ws frees j request whole may few)

    mine : of_queue q (t ∷ h) ≡ t ∷ us
    mine = of_queue-own q t h refl

    others : (r : ℕ) → r ≢ q → of_queue r (t ∷ h) ≡ of_queue r h
    others r other = of_queue-other r t h (λ e. other (sym e))

    pub sides_then : (r : ℕ) → r < s.geometry.queues → IsQueueSide k2 r (of_queue r (t ∷ h)) (at_queue w r).side
    sides_then = each_side v q d w m (λ r x. r < s.geometry.queues → IsQueueSide k2 r (of_queue r (t ∷ h)) x.side) within
        (λ inside. subst (λ (ts : List Tx). IsQueueSide k2 q ts d.side) (sym mine) side_then)
        (λ r other inside. subst (λ (ts : List Tx). IsQueueSide k2 r ts (at_queue v r).side) (sym (others r other)) (other_then s h v q ws frees j request whole may few r inside))

    pub heads_then : HeadsStay v w
    heads_then r =
        let log = log_then s h v q ws frees j request whole may few in
        let k3 = passed k2 q (at_queue v q).side d.side log (λ u ts at e. cc) (subst (λ (ts : List Tx). IsQueueSide k2 q ts (at_queue v q).side) (sym mine) (own_then s h v q ws frees j request whole may few)) in
        let side3 = side_passed k2 q (at_queue v q).side d.side log (λ u ts at e. cc) (subst (λ (ts : List Tx). IsQueueSide k2 q ts (at_queue v q).side) (sym mine) (own_then s h v q ws frees j request whole may few)) in
        let log3 = log_passed k2 q (at_queue v q).side d.side log (λ u ts at e. cc) (subst (λ (ts : List Tx). IsQueueSide k2 q ts (at_queue v q).side) (sym mine) (own_then s h v q ws frees j request whole may few)) in
        let ready : IsReady k3 q (of_queue q (t ∷ h)) (at_queue v q).side n = record { t = t; ts = us; newest = mine; commit = numbered; rung = rung s h v q ws frees j request whole may few; none = may.runs } in
        let up : (i : ℕ) → (at_queue v i).side.port.head ≤ (at_queue w i).side.port.head = each_side v q d w m (λ i x. (at_queue v i).side.port.head ≤ x.side.port.head) within
        (head_stays k2 q (at_queue v q).side d.side log (λ u ts at e. cc) (subst (λ (ts : List Tx). IsQueueSide k2 q ts (at_queue v q).side) (sym mine) (own_then s h v q ws frees j request whole may few)) (sends q k3 (of_queue q (t ∷ h)) log3 ready side3))
        (λ i other. omega arith) in
        let a = ap (λ (p : PortState). p.head) (port_is v r) in
        let b = ap (λ (p : PortState). p.head) (port_is w r) in
        let c = up r in
        omega (arith, a, b, c)

    pub sent_journal : w.root ≡ v.root → w.changes ≡ after_commit (next_number v) ws frees v.changes → w.rows ≡ reverse (loose_rows s.base s.starts (t ∷ h)) → d.rows ≡ rows_for (t ∷ us) → (d.side.kept ≡ None → IsRung k2 q (t ∷ us) d.side) → AreFlags s (t ∷ h) w → IsJournal s (t ∷ h) w
    sent_journal root changes rows stored rung_then flags =
        record {
          start = j.start;
          low = j.low;
          geometry = m.geometry ∙ j.geometry;
          root_is = root ∙ j.root_is;
          root = root_then s h v q ws frees j request whole may few;
          plain = λ u ts at. elim at [
            | inl here ↦ subst (λ (x : Tx). IsPlain x) here.0 (record { direct = refl; revoked = refl; few = may.few })
            | inr deeper ↦ j.plain u ts deeper
          ];
          log = log_then s h v q ws frees j request whole may few;
          count = same_count v q d w m ∙ j.count;
          sides = sides_then;
          rung = each_side v q d w m (λ r x. r < s.geometry.queues → x.side.kept ≡ None → IsRung k2 r (of_queue r (t ∷ h)) x.side) within
              (λ inside none. subst (λ (ts : List Tx). IsRung k2 q ts d.side) (sym mine) (rung_then none))
              (λ r other inside none. subst (λ (ts : List Tx). IsRung k2 r ts (at_queue v r).side) (sym (others r other)) (j.rung r inside none));
          stored = each_side v q d w m (λ r x. r < s.geometry.queues → x.rows ≡ rows_for (of_queue r (t ∷ h))) within
              (λ inside. stored ∙ ap rows_for (sym mine))
              (λ r other inside. j.stored r inside ∙ ap rows_for (sym (others r other)));
          changes = subst (λ c. AreChanges s.geometry s.start s.base (t ∷ h) c) (sym changes)
              (table_then s.geometry s.start s.base h v.changes j.changes (next_number v) q ws frees (subst (λ g. AreRising 0 (homes_of g) (blocks_of ws)) j.geometry request.writes) (subst (λ g. AreRising 0 (homes_of g) frees) j.geometry request.frees_rise) request.apart);
          rows = rows;
          flags = flags;
        }
