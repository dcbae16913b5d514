use Rattle.mq_tree.specs.Least.{IsLeastOf}
use Rattle.mq_tree.specs.Pointers.{HasWrong}
use Rattle.mq_tree.proofs.LeastEach.{IsWrongBelow}
use Rattle.mq_tree.proofs.pointers.bad_pointer.Given as goal

abbrev pub invariant-loop-i : goal.invariant-loop-i
invariant-loop-i l = IsLeastOf (IsWrongBelow (HasWrong l.fn.geometry l.blocks) l.i) l.best
