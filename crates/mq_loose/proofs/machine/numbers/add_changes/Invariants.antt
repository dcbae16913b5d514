use Rattle.std.proofs.Common.{◌≡◌, drop}
use Rattle.mq_loose.specs.Rows.{with_lasts}
use Rattle.mq_loose.proofs.machine.numbers.add_changes.Given as goal

-- the blocks behind have been looked at
abbrev pub invariant-loop-at : goal.invariant-loop-at
invariant-loop-at l = l.numbers ≡ with_lasts l.ledger.base (drop l.at l.blocks) l.ledger.history l.initial.numbers
