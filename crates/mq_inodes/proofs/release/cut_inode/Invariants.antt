use Rattle.std.proofs.Common.{◌≡◌, ℕ, ◌<◌, ◌≤◌, length, slice_index}
use Rattle.mq_inodes.proofs.release.cut_inode.Given as goal

abbrev pub invariant-loop-k : goal.invariant-loop-k
invariant-loop-k l = record {
  twelve : length l.direct ≡ 12;
  left : (j : ℕ) → j < 12 → j < l.fn.count → slice_index l.direct j ≡ slice_index l.fn.inode.direct j;
  gone : (j : ℕ) → j < 12 → l.fn.count ≤ j → j < l.k → slice_index l.direct j ≡ 0;
}
