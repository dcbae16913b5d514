use Rattle.std.proofs.Common.{◌≡◌, ◌++◌}
use Rattle.mq_layout.specs.Bits.{pointer_of}
use Rattle.mq_tree.specs.Decoded.{table_of}
use Rattle.mq_inodes.proofs.blocks.push_pointers.Given as goal

abbrev pub invariant-loop-k : goal.invariant-loop-k
invariant-loop-k l = l.blocks.items ≡ l.fn.blocks.items ++ table_of l.k (pointer_of l.page)
