use Rattle.mq_tree.proofs.MarksFirst.{AreZones}
use Rattle.mq_tree.proofs.bitmap_check.check_marks.Given as goal

abbrev pub invariant-loop-zone : goal.invariant-loop-zone
invariant-loop-zone l = AreZones l.fn.geometry l.blocks l.zone
