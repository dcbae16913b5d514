use Rattle.std.proofs.Common.{◌≡◌, take, length}
use Rattle.std.specs.List.{sum_by}
use Rattle.mq_tie.proofs.order.count_stored.Given as goal

abbrev pub invariant-loop-side : goal.invariant-loop-side
invariant-loop-side g l = l.count ≡ sum_by (λ s. length s.stored.items) (take l.side-index l.sides)
