use Rattle.std.proofs.Common.{◌≡◌, ◌<◌, ◌+◌, ◌*◌, ℕ}
use Rattle.mq_blocks.specs.Windows.{number_at}
use Rattle.mq_layout.proofs.refusal.check_no_pointers.Given as goal

abbrev pub invariant-loop-k : goal.invariant-loop-k
invariant-loop-k l = (j : ℕ) → j < l.k → number_at 4 (l.from + 4 * j) l.block ≡ 0
