use Rattle.std.proofs.Common.{ℕ, ◌+◌, ◌<◌, ◌≤◌, length}
use Rattle.mq_ledger.specs.Records.{IsClear}
use Rattle.mq_ledger.specs.State.{port_at}
use Rattle.mq_core.proofs.machine.reach.stored_to.Given as goal

-- the queues so far are clear at it, and no number above it is clear on all
abbrev pub invariant-loop-q : goal.invariant-loop-q
invariant-loop-q l = record {
  high : l.number ≤ l.ledger.base + length l.ledger.history;
  clear : (q : ℕ) → q < l.q → IsClear l.ledger q (port_at l.ports q).stored_head (l.number + 1);
  greatest : (n : ℕ) → n ≤ l.ledger.base + length l.ledger.history
      → ((q : ℕ) → q < l.ledger.geometry.queues → IsClear l.ledger q (port_at l.ports q).stored_head (n + 1)) → n ≤ l.number;
}
