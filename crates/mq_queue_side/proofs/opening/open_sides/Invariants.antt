use Rattle.std.proofs.Common.{◌+◌, ◌≤◌, length}
use Rattle.std.specs.Prelude.{vec_capacity}
use Rattle.mq_queue_side.specs.Opening.{IsNewSide}
use Rattle.mq_queue_side.proofs.ReversedLists.{HasMoved}
use Rattle.mq_queue_side.proofs.opening.open_sides.Given as goal

abbrev pub invariant-loop-port : goal.invariant-loop-port
invariant-loop-port g l = record {
  opened : HasMoved (λ s. s.pmr.port) (IsNewSide g.P.Port.state l.geometry) l.fn.queues.items l.queues.items l.sides.items;
  room : length l.queues.items + length l.sides.items ≤ vec_capacity l.sides;
  spare : length l.queues.items + length l.sides.items ≤ vec_capacity l.queues;
  few : length l.queues.items ≤ 16;
}

abbrev pub decreases-loop-port : goal.decreases-loop-port
decreases-loop-port g l = length l.queues.items
