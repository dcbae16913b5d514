use Rattle.mq_tree.specs.Parts.{AddsMarks}
use Rattle.mq_tree.proofs.dirs.mark_blocks.Given as goal

abbrev pub invariant-loop-place : goal.invariant-loop-place
invariant-loop-place l = AddsMarks l.fn.geometry l.blocks l.inode l.place l.fn.marks l.marks
