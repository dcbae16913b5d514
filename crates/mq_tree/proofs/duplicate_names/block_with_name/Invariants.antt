use Rattle.mq_tree.specs.Least.{IsLeastOf}
use Rattle.mq_tree.proofs.DirectoriesTwins.{NameAt}
use Rattle.mq_tree.proofs.LeastBelow.{WrongBelow}
use Rattle.mq_tree.proofs.duplicate_names.block_with_name.Given as goal

abbrev pub invariant-loop-k : goal.invariant-loop-k
invariant-loop-k l = IsLeastOf (WrongBelow (NameAt l.blocks l.inode l.names) l.k) l.least
