use Rattle.std.proofs.Common.{◌≡◌, ◌++◌, take, drop}
use Rattle.mq_loose_order.specs.Rising.{with_number}
use Rattle.mq_loose_order.proofs.numbers.first_from.Given as goal

-- the number goes behind those that were passed
abbrev pub invariant-loop-i : goal.invariant-loop-i
invariant-loop-i l = with_number l.fn.number l.numbers ≡ take l.i l.numbers ++ with_number l.fn.number (drop l.i l.numbers)
