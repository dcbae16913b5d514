use Rattle.mq_tree.proofs.Walks.{Visits}
use Rattle.mq_tree.proofs.walk.visit.Given as goal

abbrev pub invariant-loop-k : goal.invariant-loop-k
invariant-loop-k l = Visits l.fn.geometry l.blocks l.walk.seen.items l.walk.order.items l.done l.k l.d
