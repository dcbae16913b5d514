use Rattle.std.proofs.Common.{◌≡◌, ◌-◌, ◌++◌, get_or, None}
use Rattle.mq_block_trace.specs.Lines.{writes_from, named}
use Rattle.mq_command_blocks.proofs.items.filled_writes.Given as goal

abbrev pub invariant-loop-b : goal.invariant-loop-b
invariant-loop-b l =
    writes_from (λ b. get_or l.fills b None) 0 named ≡ l.writes.items ++ writes_from (λ b. get_or l.fills b None) l.b (named - l.b)
