use Rattle.mq_tree.proofs.ContentsTwins.{Read}
use Rattle.mq_tree.proofs.contents.read_contents.Given as goal

abbrev pub invariant-loop-i : goal.invariant-loop-i
invariant-loop-i l = Read l.fn.geometry l.blocks l.i l.keeps l.twin l.found.items
