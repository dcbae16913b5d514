use Rattle.std.proofs.Common.{◌≡◌, ◌+◌, drop}
use Rattle.mq_ledger.specs.Tables.{after_writes}
use Rattle.mq_ledger.proofs.latest.mark_writes.Given as goal

-- the other writes are still to come
abbrev pub invariant-loop-i : goal.invariant-loop-i
invariant-loop-i l = after_writes l.number l.copied (l.before + l.i) (drop l.i l.writes) l.table ≡ after_writes l.number l.copied l.before l.writes l.initial.table
