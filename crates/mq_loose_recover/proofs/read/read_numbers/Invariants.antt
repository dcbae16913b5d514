use Rattle.std.proofs.Common.{◌≡◌, drop}
use Rattle.mq_loose_recover.specs.Reading.{wide_numbers}
use Rattle.mq_loose_recover.proofs.read.read_numbers.Given as goal

abbrev pub invariant-loop-i : goal.invariant-loop-i
invariant-loop-i l = l.numbers.items ≡ wide_numbers l.i (drop l.at l.block)
