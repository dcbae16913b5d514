use Rattle.std.proofs.Common.{◌≡◌, take}
use Rattle.mq_blocks.specs.Descriptor.{list_bytes}
use Rattle.mq_blocks.specs.Windows.{written}
use Rattle.mq_layout.proofs.inode.put_pointers.Given as goal

abbrev pub invariant-loop-k : goal.invariant-loop-k
invariant-loop-k l = l.block ≡ written l.initial.block l.start (list_bytes (take l.k l.pointers))
