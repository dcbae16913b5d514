use Rattle.std.proofs.Common.{◌<◌, ◌≤◌, ℕ}
use Rattle.std.specs.Prelude.{nat_lt}
use Rattle.mq_tree.specs.Decoded.{pointer_to}
use Rattle.mq_tree.specs.Pointers.{IsRight}
use Rattle.mq_tree.proofs.pointers.are_far.Given as goal

abbrev pub invariant-loop-k : goal.invariant-loop-k
invariant-loop-k l = (j : ℕ) → 12 ≤ j → j < l.k → IsRight l.geometry (nat_lt j l.count) (pointer_to l.blocks l.inode j)
