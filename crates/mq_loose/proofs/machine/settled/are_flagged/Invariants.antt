use Rattle.std.proofs.Common.{◌≡◌, drop}
use Rattle.mq_loose_order.specs.Dependence.{all_in}
use Rattle.mq_loose.specs.Rows.{flag_of}
use Rattle.mq_loose.proofs.machine.settled.are_flagged.Given as goal

-- the rest of the numbers decides
abbrev pub invariant-loop-number : goal.invariant-loop-number
invariant-loop-number l = all_in (flag_of l.fn.base l.flags) l.numbers ≡ all_in (flag_of l.fn.base l.flags) (drop l.number-index l.numbers)
