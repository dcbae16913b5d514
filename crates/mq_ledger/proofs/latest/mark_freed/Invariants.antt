use Rattle.std.proofs.Common.{◌≡◌, drop}
use Rattle.mq_ledger.specs.Tables.{after_freed}
use Rattle.mq_ledger.proofs.latest.mark_freed.Given as goal

-- the other blocks are still to come
abbrev pub invariant-loop-block : goal.invariant-loop-block
invariant-loop-block l = after_freed l.number (drop l.block-index l.blocks) l.table ≡ after_freed l.number l.blocks l.initial.table
