use Rattle.std.proofs.Common.{◌≡◌, drop}
use Rattle.mq_loose_queues.specs.Changes.{with_changed}
use Rattle.mq_loose_queues.proofs.changes.add_changes.Given as goal

-- the blocks behind have been looked at
abbrev pub invariant-loop-at : goal.invariant-loop-at
invariant-loop-at l = l.numbers ≡ with_changed l.base l.table (drop l.at l.blocks) l.initial.numbers
