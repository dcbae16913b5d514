use Rattle.mq_tree.proofs.TreesKeeping.{ReadTo}
use Rattle.mq_tree.proofs.contents.read_file.Given as goal

abbrev pub invariant-loop-place : goal.invariant-loop-place
invariant-loop-place l = ReadTo l.blocks l.inode l.place l.bytes.items
