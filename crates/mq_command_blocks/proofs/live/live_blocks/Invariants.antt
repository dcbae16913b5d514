use Rattle.std.proofs.Common.{◌≡◌, ◌-◌, ◌++◌}
use Rattle.mq_blocks.specs.Machine.{Map}
use Rattle.mq_block_trace.specs.Lines.{live_from, named}
use Rattle.mq_block_trace.specs.Marks.{AreMarks}
use Rattle.mq_command_blocks.specs.Live.{HoldsMap}
use Rattle.mq_command_blocks.proofs.live.live_blocks.Given as goal

abbrev pub invariant-loop-b : goal.invariant-loop-b
invariant-loop-b l =
    (m : Map) → AreMarks m l.marks → HoldsMap l.homes m → live_from m 0 named ≡ l.live.items ++ live_from m l.b (named - l.b)
