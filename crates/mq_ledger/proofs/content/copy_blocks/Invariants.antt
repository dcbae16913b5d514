use Rattle.std.proofs.Common.{◌≡◌, take}
use Rattle.mq_ledger.proofs.content.copy_blocks.Given as goal

-- the blocks so far
abbrev pub invariant-loop-block : goal.invariant-loop-block
invariant-loop-block l = l.copies.items ≡ take l.block-index l.blocks
