use Rattle.std.proofs.Common.{◌≡◌, ℕ, List, length, reverse}
use Rattle.mq_ledger.specs.History.{AreNumbered}
use Rattle.mq_ledger.specs.declared.tx.Tx.{Tx}
use Rattle.mq_loose.specs.Rows.{loose_rows}
use Rattle.mq_loose.proofs.Flags.{AreFlags}
use Rattle.mq_loose.proofs.machine.settled.settled_flags.Given as goal

-- each of the transactions so far has its flag
abbrev pub invariant-loop-row : goal.invariant-loop-row
invariant-loop-row l = record {
  count : length l.flags.items ≡ l.row-index;
  each : (starts : List ℕ) (h : List Tx) → AreNumbered l.fn.base h → l.rows ≡ reverse (loose_rows l.fn.base starts h) → AreFlags l.fn.base starts l.ports h l.flags.items;
}
