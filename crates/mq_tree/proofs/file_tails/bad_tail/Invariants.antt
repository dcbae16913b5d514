use Rattle.mq_tree.specs.Least.{IsLeastOf}
use Rattle.mq_tree.proofs.FileTails.{HasEndBelow}
use Rattle.mq_tree.proofs.file_tails.bad_tail.Given as goal

abbrev pub invariant-loop-inode : goal.invariant-loop-inode
invariant-loop-inode l = IsLeastOf (HasEndBelow l.fn.geometry l.blocks l.inode-index) l.best
