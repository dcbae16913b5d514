use Rattle.std.proofs.Common.{◌≡◌, None, replicate}
use Rattle.mq_loose_run.proofs.run.blank_standing.Given as goal

-- the blocks so far are absent
abbrev pub invariant-loop-block : goal.invariant-loop-block
invariant-loop-block l = l.blocks.items ≡ replicate l.block None
