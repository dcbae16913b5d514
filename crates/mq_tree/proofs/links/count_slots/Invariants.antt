use Rattle.mq_tree.proofs.LinksCounted.{Counts}
use Rattle.mq_tree.proofs.links.count_slots.Given as goal

abbrev pub invariant-loop-k : goal.invariant-loop-k
invariant-loop-k l = Counts l.blocks l.inode l.fn.counts l.counts l.k
