use Rattle.std.proofs.Common.{◌+◌, ◌≤◌, length}
use Rattle.std.specs.Prelude.{vec_capacity}
use Rattle.mq_queue_side.proofs.ReversedLists.{HasMoved}
use Rattle.mq_sessions.proofs.seats.set_apart.Given as goal

abbrev pub invariant-loop-chairs : goal.invariant-loop-chairs
invariant-loop-chairs g l = record {
  moved : HasMoved (λ h. h.chair) (λ i h. Unit {0}) l.fn.chairs.items l.chairs.items l.helpers.items;
  some : l.sessions ≤ length l.chairs.items;
  room : length l.chairs.items + length l.helpers.items ≤ l.sessions + vec_capacity l.helpers;
}

abbrev pub decreases-loop-chairs : goal.decreases-loop-chairs
decreases-loop-chairs g l = length l.chairs.items
