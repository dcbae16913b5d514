use Rattle.std.proofs.Common.{◌≡◌, length}
use Rattle.mq_block_trace.specs.Lines.{map_after}
use Rattle.mq_block_trace.specs.Marks.{AreMarks}
use Rattle.mq_command_blocks.proofs.live.live_marks.Given as goal

abbrev pub invariant-loop-line : goal.invariant-loop-line
invariant-loop-line l = record {
  whole : length l.marks.items ≡ 256;
  marks : AreMarks (map_after l.fn.text l.line-index) l.marks.items;
}
