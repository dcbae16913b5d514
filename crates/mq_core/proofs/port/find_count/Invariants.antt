use Rattle.std.proofs.Common.{◌≡◌, ◌+◌, drop}
use Rattle.mq_ledger.specs.Sides.{holds_count}
use Rattle.mq_core.specs.Events.{index_with}
use Rattle.mq_core.proofs.port.find_count.Given as goal

-- none of the commands so far has the count
abbrev pub invariant-loop-command : goal.invariant-loop-command
invariant-loop-command l = record {
  at : l.at ≡ l.command-index;
  held : holds_count l.count l.commands ≡ holds_count l.count (drop l.command-index l.commands);
  index : index_with l.count l.commands ≡ l.command-index + index_with l.count (drop l.command-index l.commands);
}
