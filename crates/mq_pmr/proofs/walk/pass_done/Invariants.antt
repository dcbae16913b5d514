use Rattle.std.proofs.Common.{◌≡◌, ◌≤◌, ℕ, length}
use Rattle.std.specs.VecDeque.{deque_capacity}
use Rattle.mq_pmr.specs.Rungs.{AreEnds}
use Rattle.mq_pmr.proofs.RungsWalking.{Onward}
use Rattle.mq_pmr.proofs.walk.pass_done.Given as goal

-- what leads from here on leads to the same transactions as from the start
abbrev pub invariant-transactions : goal.invariant-transactions
invariant-transactions l = record {
  capacity : deque_capacity l.fn.rung ≤ deque_capacity l.rung;
  ring : l.slots ≡ l.fn.slots;
  onward : (limit : ℕ) → AreEnds l.fn.done.end limit l.fn.rung.items → l.fn.done.end ≤ l.fn.passed → l.fn.passed ≤ limit
      → Onward l.fn.slots.items limit l.fn.passed l.fn.done l.fn.rung.items l.passed l.done l.rung.items;
}

abbrev pub decreases-transactions : goal.decreases-transactions
decreases-transactions l = length l.rung.items
