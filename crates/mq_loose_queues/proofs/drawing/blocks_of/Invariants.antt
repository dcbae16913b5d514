use Rattle.std.proofs.Common.{◌≡◌, take}
use Rattle.mq_ledger.specs.History.{blocks_of}
use Rattle.mq_loose_queues.proofs.drawing.blocks_of.Given as goal

-- the blocks so far
abbrev pub invariant-loop-block : goal.invariant-loop-block
invariant-loop-block l = l.blocks.items ≡ blocks_of (take l.block-index l.writes)
