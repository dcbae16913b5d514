use Rattle.std.proofs.Common.{◌≡◌, ◌+◌, ◌≤◌, ◌++◌, length, map}
use Rattle.std.specs.Prelude.{reverse, vec_capacity}
use Rattle.mq_queue_side.proofs.opening.unmake_sides.Given as goal

abbrev pub invariant-loop-side : goal.invariant-loop-side
invariant-loop-side g l = record {
  back : l.ports.items ++ map (λ s. s.pmr.port) (reverse l.sides.items) ≡ l.fn.ports.items ++ map (λ s. s.pmr.port) (reverse l.fn.sides.items);
  room : length l.ports.items + length l.sides.items ≤ vec_capacity l.ports;
}

abbrev pub decreases-loop-side : goal.decreases-loop-side
decreases-loop-side g l = length l.sides.items
