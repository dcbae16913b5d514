use Rattle.std.proofs.Common.{◌≡◌, take}
use Rattle.mq_blocks.specs.Descriptor.{list_bytes}
use Rattle.mq_blocks.specs.Windows.{written}
use Rattle.mq_blocks.proofs.bytes.put_list.Given as goal

abbrev pub invariant-loop-i : goal.invariant-loop-i
invariant-loop-i l = l.block ≡ written l.initial.block l.at (list_bytes (take l.i l.list))
