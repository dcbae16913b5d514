use Rattle.std.proofs.Common.{ℕ}
use Rattle.std.specs.Prelude.{nat_eq, not, slice_index_or}
use Rattle.mq_layout.specs.Empty.{free_inode}
use Rattle.mq_tree.proofs.Marks.{HasCause}
use Rattle.mq_tree.proofs.bitmap_check.inode_cause.Given as goal

abbrev pub invariant-loop-i : goal.invariant-loop-i
invariant-loop-i l = HasCause l.block (λ (k : ℕ). not (nat_eq (slice_index_or l.inodes k free_inode).kind 0)) l.i l.cause
