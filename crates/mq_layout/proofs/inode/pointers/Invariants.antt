use Rattle.std.proofs.Common.{◌≡◌, ◌<◌, ◌+◌, ◌*◌, ℕ, get_or, length}
use Rattle.mq_blocks.specs.Windows.{number_at}
use Rattle.mq_layout.proofs.inode.pointers.Given as goal

abbrev pub invariant-loop-k : goal.invariant-loop-k
invariant-loop-k l = record {
  twelve : length l.pointers ≡ 12;
  read : (j : ℕ) → j < l.k → get_or l.pointers j 0 ≡ number_at 4 (l.start + 4 * j) l.block;
}
