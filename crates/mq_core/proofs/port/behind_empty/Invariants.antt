use Rattle.std.proofs.Common.{◌≡◌, None, replicate}
use Rattle.mq_core.proofs.port.behind_empty.Given as goal

-- one absent block for each pass so far
abbrev pub invariant-loop : goal.invariant-loop
invariant-loop l = l.blocks.items ≡ replicate l.counter None
