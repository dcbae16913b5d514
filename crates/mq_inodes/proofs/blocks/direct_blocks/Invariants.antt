use Rattle.std.proofs.Common.{◌≡◌, take}
use Rattle.mq_inodes.proofs.blocks.direct_blocks.Given as goal

abbrev pub invariant-loop-k : goal.invariant-loop-k
invariant-loop-k l = l.blocks.items ≡ take l.k l.inode.direct
