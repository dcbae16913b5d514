use Rattle.std.proofs.Common.{◌≡◌, ◌≤◌, length, take}
use Rattle.mq_queue_side.specs.Stored.{rows_of, covered_in}
use Rattle.mq_queue_side.proofs.room.covered.Given as goal

-- those that were seen are above the base
abbrev pub invariant-down : goal.invariant-down
invariant-down g l = record {
  within : l.at ≤ length l.stored;
  same : covered_in l.base (rows_of (take l.at l.stored)) ≡ covered_in l.base (rows_of l.stored);
}

abbrev pub decreases-down : goal.decreases-down
decreases-down g l = l.at
