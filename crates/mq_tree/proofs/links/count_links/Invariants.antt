use Rattle.mq_tree.proofs.LinksCounted.{Counted}
use Rattle.mq_tree.proofs.links.count_links.Given as goal

abbrev pub invariant-loop-i : goal.invariant-loop-i
invariant-loop-i l = Counted l.fn.geometry l.blocks l.counts.items l.i
