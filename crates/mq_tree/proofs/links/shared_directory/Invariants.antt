use Rattle.mq_tree.proofs.LinksShared.{AreNamedBelow}
use Rattle.mq_tree.proofs.links.shared_directory.Given as goal

abbrev pub invariant-loop-i : goal.invariant-loop-i
invariant-loop-i l = AreNamedBelow l.fn.geometry l.blocks l.i
