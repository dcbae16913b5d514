use Rattle.std.proofs.Common.{◌≡◌, ◌≤◌, length, reverse, take}
use Rattle.mq_loose.specs.Rows.{newest_number}
use Rattle.mq_loose.proofs.machine.rows.newest_of.Given as goal

-- the rows behind the place don't count
abbrev pub invariant-loop-at : goal.invariant-loop-at
invariant-loop-at l = record {
  inside : l.at ≤ length l.rows;
  rest : newest_number l.fn.queue (reverse l.rows) ≡ newest_number l.fn.queue (reverse (take l.at l.rows));
}

abbrev pub decreases-loop-at : goal.decreases-loop-at
decreases-loop-at l = l.at
