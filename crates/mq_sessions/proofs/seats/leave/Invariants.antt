use Rattle.std.proofs.Common.{◌≡◌, ◌+◌, ◌≤◌, ◌++◌, length, map}
use Rattle.std.specs.Prelude.{reverse, vec_capacity}
use Rattle.mq_sessions.proofs.seats.leave.Given as goal

abbrev pub invariant-loop-helper : goal.invariant-loop-helper
invariant-loop-helper g l = record {
  left : map (λ h. h.chair) l.helpers.items ++ reverse l.chairs.items ≡ map (λ h. h.chair) l.fn.helpers.items;
  room : length l.fn.sessions.items + (length l.helpers.items + length l.chairs.items) ≤ vec_capacity l.chairs;
}

abbrev pub decreases-loop-helper : goal.decreases-loop-helper
decreases-loop-helper g l = length l.helpers.items

abbrev pub invariant-loop-session : goal.invariant-loop-session
invariant-loop-session g l = record {
  left : map (λ s. s.chair) l.sessions.items ++ reverse l.chairs.items ≡ map (λ s. s.chair) l.fn.sessions.items ++ map (λ h. h.chair) l.fn.helpers.items;
  room : length l.sessions.items + length l.chairs.items ≤ vec_capacity l.chairs;
}

abbrev pub decreases-loop-session : goal.decreases-loop-session
decreases-loop-session g l = length l.sessions.items
