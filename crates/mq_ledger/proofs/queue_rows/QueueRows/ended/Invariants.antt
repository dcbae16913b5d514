use Rattle.std.proofs.Common.{◌≡◌, ◌≤◌, length, reverse, take}
use Rattle.mq_ledger.specs.Tables.{rows_from, ends_by}
use Rattle.mq_ledger.proofs.queue_rows.QueueRows.ended.Given as goal

-- the rows behind the place don't count
abbrev pub invariant-loop-at : goal.invariant-loop-at
invariant-loop-at l = record {
  inside : l.at ≤ length l.self-inside.rows.items;
  rest : rows_from (ends_by l.count) (reverse l.self-inside.rows.items) ≡ rows_from (ends_by l.count) (reverse (take l.at l.self-inside.rows.items));
}

abbrev pub decreases-loop-at : goal.decreases-loop-at
decreases-loop-at l = l.at
