use Rattle.mq_tree.proofs.LinksShared.{AreLinkedBelow}
use Rattle.mq_tree.proofs.links.bad_count.Given as goal

abbrev pub invariant-loop-i : goal.invariant-loop-i
invariant-loop-i l = AreLinkedBelow l.fn.geometry l.blocks l.i
