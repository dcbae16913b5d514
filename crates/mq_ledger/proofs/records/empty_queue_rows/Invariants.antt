use Rattle.std.proofs.Common.{◌≡◌, [], replicate}
use Rattle.mq_ledger.proofs.records.empty_queue_rows.Given as goal

-- one empty row for each pass so far
abbrev pub invariant-loop : goal.invariant-loop
invariant-loop l = l.queue_rows.items ≡ replicate l.counter []
