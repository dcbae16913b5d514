use Rattle.std.proofs.Common.{◌<◌, ℕ}
use Rattle.std.specs.Prelude.{nat_lt, slice_index}
use Rattle.mq_tree.specs.Pointers.{IsRight}
use Rattle.mq_tree.proofs.pointers.are_near.Given as goal

abbrev pub invariant-loop-k : goal.invariant-loop-k
invariant-loop-k l = (j : ℕ) → j < l.k → IsRight l.geometry (nat_lt j l.count) (slice_index l.inode.direct j)
