-- The queues after one of them was drained.
use Rattle.std.proofs.Common.{◌≡◌, ℕ, ◌<◌, ◌≤◌, List, [], ◌∷◌, length, Option, Some, None, sym, refl, ap, subst, ◌∙◌, inl, inr, arith, nat_le}
use Rattle.std.proofs.lemmas.Bool.{cases_Bool}
use Rattle.mq_blocks.specs.Drive.{PortState}
use Rattle.mq_loose_queues.specs.Changes.{AreChanges}
use Rattle.mq_ledger.specs.History.{of_queue}
use Rattle.mq_ledger.specs.KnownJournal.{KnownJournal}
use Rattle.mq_ledger.specs.State.{State}
use Rattle.mq_ledger.specs.declared.tx.Tx.{Tx}
use Rattle.mq_queue_side.specs.Drained.{Failures, kept_after}
use Rattle.mq_queue_side.specs.Side.{IsQueueSide, IsRung}
use Rattle.mq_queue_side.specs.Staying.{Stays}
use Rattle.mq_queue_side.specs.Stored.{rows_for}
use Rattle.mq_queue_side.specs.declared.answers.Why.{Why}
use Rattle.mq_queue_side.specs.declared.answers.Why.TheVariants.{Status, Off}
use Rattle.mq_loose_queues.specs.Commits.{HeadsStay}
use Rattle.mq_loose_queues.specs.Journal.{AreFlags, IsJournal, known_over}
use Rattle.mq_loose_queues.specs.Queues.{QueuesState, StoredSide, at_queue}
use Rattle.mq_loose_queues.proofs.Heads.{head_stays, log_passed, passed, side_passed}
use Rattle.mq_loose_queues.proofs.Ports.{port_is}
use Rattle.mq_loose_queues.proofs.Sides.{IsMoved, each_side, same_count}

-- a failure that is kept is never forgotten
still_kept : (w : ℕ × Why) (fs : Failures) → kept_after (Some w) fs ≡ None → ⊥
still_kept w [] none = absurd (cc)
still_kept (n, Off) (f ∷ fs) none = still_kept (f.0, Status f.1) fs none
still_kept (n, Status s) (f ∷ fs) none = elim (cases_Bool (nat_le n f.0)) [
  | inl is ↦ still_kept (n, Status s) fs (rw is at none)
  | inr is ↦ still_kept (f.0, Status f.1) fs (rw is at none)
]

pub none_before : (old : Option (ℕ × Why)) (fs : Failures) (new : Option (ℕ × Why)) → new ≡ kept_after old fs → new ≡ None → old ≡ None
none_before None fs new is none = refl
none_before (Some w) fs new is none = absurd (still_kept w fs (sym is ∙ none))

module _ (s : State) (h : List Tx) (v w : QueuesState) (q : ℕ) (d : StoredSide) (j : IsJournal s h v) (own : q < s.geometry.queues) (m : IsMoved v q d w) (stays : Stays (at_queue v q).side d.side) where
  abbrev k : KnownJournal
  k = known_over s h

  within : q < length v.sides
  within = omega (arith, own, j.count)

  pub side_then : IsQueueSide k q (of_queue q h) d.side
  side_then = stays q k (of_queue q h) j.log (j.sides q own)

  pub heads_then : HeadsStay v w
  heads_then r =
      let up : (n : ℕ) → (at_queue v n).side.port.head ≤ (at_queue w n).side.port.head = each_side v q d w m (λ n x. (at_queue v n).side.port.head ≤ x.side.port.head) within
      (head_stays k q (at_queue v q).side d.side j.log (λ t ts at e. cc) (j.sides q own) (stays q (passed k q (at_queue v q).side d.side j.log (λ t ts at e. cc) (j.sides q own)) (of_queue q h) (log_passed k q (at_queue v q).side d.side j.log (λ t ts at e. cc) (j.sides q own)) (side_passed k q (at_queue v q).side d.side j.log (λ t ts at e. cc) (j.sides q own))))
      (λ n other. omega arith) in
      let a = ap (λ (p : PortState). p.head) (port_is v r) in
      let b = ap (λ (p : PortState). p.head) (port_is w r) in
      let c = up r in
      omega (arith, a, b, c)

  pub sides_then : (r : ℕ) → r < s.geometry.queues → IsQueueSide k r (of_queue r h) (at_queue w r).side
  sides_then = each_side v q d w m (λ n x. n < s.geometry.queues → IsQueueSide k n (of_queue n h) x.side) within (λ inside. side_then) (λ n other inside. j.sides n inside)

  pub drained_journal : w.root ≡ v.root → w.changes ≡ v.changes → w.rows ≡ v.rows → d.rows ≡ (at_queue v q).rows → d.side.port.doorbell ≡ (at_queue v q).side.port.doorbell → (d.side.kept ≡ None → (at_queue v q).side.kept ≡ None) → AreFlags s h w → IsJournal s h w
  drained_journal root changes rows stored doorbell kept flags =
      record {
        start = j.start;
        low = j.low;
        geometry = m.geometry ∙ j.geometry;
        root_is = root ∙ j.root_is;
        root = j.root;
        plain = j.plain;
        log = j.log;
        count = same_count v q d w m ∙ j.count;
        sides = sides_then;
        rung = each_side v q d w m (λ n x. n < s.geometry.queues → x.side.kept ≡ None → IsRung k n (of_queue n h) x.side) within (λ inside none. doorbell ∙ j.rung q own (kept none)) (λ n other inside none. j.rung n inside none);
        stored = each_side v q d w m (λ n x. n < s.geometry.queues → x.rows ≡ rows_for (of_queue n h)) within (λ inside. stored ∙ j.stored q own) (λ n other inside. j.stored n inside);
        changes = subst (λ c. AreChanges s.geometry s.start s.base h c) (sym changes) j.changes;
        rows = rows ∙ j.rows;
        flags = flags;
      }
