use Rattle.std.proofs.Common.{◌<◌, ℕ}
use Rattle.mq_tree.specs.Parts.{NamesRight}
use Rattle.mq_tree.proofs.names.name_all.Given as goal

abbrev pub invariant-loop-at : goal.invariant-loop-at
invariant-loop-at l = (j : ℕ) → j < l.at → NamesRight l.inodes l.block j
