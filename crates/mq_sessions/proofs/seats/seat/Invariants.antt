use Rattle.std.proofs.Common.{◌≡◌, ◌+◌, ◌≤◌, length}
use Rattle.std.specs.Prelude.{vec_capacity}
use Rattle.mq_sessions.specs.Seats.{IsUncalled}
use Rattle.mq_queue_side.proofs.ReversedLists.{HasMoved}
use Rattle.mq_sessions.proofs.seats.seat.Given as goal

abbrev pub invariant-loop-chair : goal.invariant-loop-chair
invariant-loop-chair g l = record {
  seated : HasMoved (λ s. s.chair) (λ i s. IsUncalled i s.queue s.calls s.wanted.items) l.fn.chairs.items l.chairs.items l.sessions.items;
  equipped : HasMoved (λ s. (s.held, s.plan)) (λ i s. Unit {0}) l.fn.kits.items l.kits.items l.sessions.items;
  kits : length l.kits.items ≡ length l.chairs.items;
  room : length l.chairs.items + length l.sessions.items ≤ vec_capacity l.sessions;
  few : length l.chairs.items ≤ 16;
}

abbrev pub decreases-loop-chair : goal.decreases-loop-chair
decreases-loop-chair g l = length l.chairs.items
