use Rattle.mq_tree.specs.Least.{IsLeastOf}
use Rattle.mq_tree.proofs.DecodedNaming.{OtherAt}
use Rattle.mq_tree.proofs.LeastBelow.{WrongBelow}
use Rattle.mq_tree.proofs.names.bad_name_in.Given as goal

abbrev pub invariant-loop-place : goal.invariant-loop-place
invariant-loop-place l = IsLeastOf (WrongBelow (OtherAt l.blocks l.inodes l.inode) l.place) l.least
