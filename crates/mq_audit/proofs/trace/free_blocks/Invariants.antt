use Rattle.std.proofs.Common.{◌≡◌, None, replicate}
use Rattle.mq_audit.proofs.trace.free_blocks.Given as goal

-- one free block for each pass so far
abbrev pub invariant-loop : goal.invariant-loop
invariant-loop l = l.free.items ≡ replicate l.counter None
