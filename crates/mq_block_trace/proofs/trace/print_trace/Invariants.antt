use Rattle.std.proofs.Common.{◌≡◌, ◌+◌, length}
use Rattle.mq_block_trace.specs.Lines.{map_after}
use Rattle.mq_block_trace.specs.Marks.{AreMarks}
use Rattle.mq_block_trace.specs.Prefixes.{events_of, places_upto}
use Rattle.mq_block_trace.specs.Traced.{events_upto}
use Rattle.mq_block_trace.specs.Written.{trace_text}
use Rattle.mq_block_trace.proofs.trace.print_trace.Given as goal

-- the events of the lines so far are written
abbrev pub invariant-loop-line : goal.invariant-loop-line
invariant-loop-line l = record {
  number : l.tx.number ≡ l.line-index;
  count : l.tx.count + l.tx.entries ≡ places_upto l.fn.text l.line-index;
  left : l.left + events_of l.fn.text l.line-index ≡ l.fn.cut;
  whole : length l.marks.items ≡ 256;
  marks : AreMarks (map_after l.fn.text l.line-index) l.marks.items;
  written : l.out.items ≡ trace_text l.fn.geometry (events_upto l.fn.text l.line-index);
}
