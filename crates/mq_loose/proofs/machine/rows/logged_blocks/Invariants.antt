use Rattle.std.proofs.Common.{◌≡◌, take}
use Rattle.mq_ledger.specs.History.{blocks_of}
use Rattle.mq_loose.proofs.machine.rows.logged_blocks.Given as goal

-- the blocks so far
abbrev pub invariant-loop-write : goal.invariant-loop-write
invariant-loop-write l = l.blocks.items ≡ blocks_of (take l.write-index l.writes)
