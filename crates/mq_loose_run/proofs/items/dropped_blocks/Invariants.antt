use Rattle.std.proofs.Common.{◌≡◌, ◌-◌, ◌++◌}
use Rattle.mq_block_trace.specs.Lines.{named}
use Rattle.mq_block_trace.specs.Marks.{dropped_from}
use Rattle.mq_loose_run.proofs.items.dropped_blocks.Given as goal

abbrev pub invariant-loop-b : goal.invariant-loop-b
invariant-loop-b l = dropped_from l.before l.after 0 named ≡ l.blocks.items ++ dropped_from l.before l.after l.b (named - l.b)
