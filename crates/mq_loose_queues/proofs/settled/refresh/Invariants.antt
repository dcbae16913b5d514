use Rattle.std.proofs.Common.{◌≡◌, ◌≤◌, ℕ, List, length, reverse, vec_capacity}
use Rattle.mq_ledger.specs.History.{AreNumbered}
use Rattle.mq_ledger.specs.declared.tx.Tx.{Tx}
use Rattle.mq_loose.specs.Rows.{loose_rows}
use Rattle.mq_loose.proofs.Flags.{AreFlags}
use Rattle.mq_loose_queues.specs.Rings.{ports_in}
use Rattle.mq_loose_queues.proofs.settled.refresh.Given as goal

-- each of the transactions so far has its flag
abbrev pub invariant-loop-row : goal.invariant-loop-row
invariant-loop-row g l = record {
  count : length l.flags.items ≡ l.row-index;
  room : length l.rows ≤ vec_capacity l.flags;
  kept : vec_capacity l.fn.flags ≤ vec_capacity l.flags;
  each : (starts : List ℕ) (h : List Tx) → AreNumbered l.fn.base h → l.rows ≡ reverse (loose_rows l.fn.base starts h) → AreFlags l.fn.base starts (ports_in g.P.Port.state l.sides) h l.flags.items;
}
