use Rattle.mq_tree.specs.Least.{IsLeastOf}
use Rattle.mq_tree.proofs.DecodedNaming.{NamedAt}
use Rattle.mq_tree.proofs.LeastBelow.{WrongBelow}
use Rattle.mq_tree.proofs.names.bad_name.Given as goal

abbrev pub invariant-loop-i : goal.invariant-loop-i
invariant-loop-i l = IsLeastOf (WrongBelow (NamedAt l.fn.geometry l.blocks l.inodes) l.i) l.least
