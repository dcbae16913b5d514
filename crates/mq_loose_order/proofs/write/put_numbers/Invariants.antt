use Rattle.std.proofs.Common.{◌≡◌, take}
use Rattle.mq_blocks.specs.Windows.{written}
use Rattle.mq_loose_order.specs.Form.{number_bytes}
use Rattle.mq_loose_order.proofs.write.put_numbers.Given as goal

abbrev pub invariant-loop-i : goal.invariant-loop-i
invariant-loop-i l = l.block ≡ written l.initial.block l.at (number_bytes (take l.i l.numbers))
