use Rattle.std.proofs.Common.{ℕ, ◌+◌, ◌≤◌}
use Rattle.mq_ledger.specs.Records.{IsClear}
use Rattle.mq_core.proofs.machine.reach.lowered.Given as goal

-- no number above it is clear
abbrev pub invariant-loop-queue : goal.invariant-loop-queue
invariant-loop-queue l = record {
  high : l.lowest ≤ l.number;
  greatest : (n : ℕ) → n ≤ l.number → IsClear l.ledger l.queue l.head (n + 1) → n ≤ l.lowest;
}

abbrev pub decreases-loop-queue : goal.decreases-loop-queue
decreases-loop-queue l = l.lowest
