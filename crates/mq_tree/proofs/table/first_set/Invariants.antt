use Rattle.std.proofs.Common.{◌≡◌, ◌≤◌, ◌<◌, ℕ}
use Rattle.mq_layout.specs.Bits.{bit_of}
use Rattle.mq_tree.proofs.table.first_set.Given as goal

abbrev pub invariant-loop-k : goal.invariant-loop-k
invariant-loop-k l = (j : ℕ) → l.from ≤ j → j < l.k → bit_of l.block j ≡ 0
