use Rattle.std.proofs.Common.{◌↔◌, drop}
use Rattle.mq_blocks.specs.Drive.{AreFrom}
use Rattle.mq_core.proofs.port.are_from.Given as goal

-- the rest of the commands decide
abbrev pub invariant-loop-command : goal.invariant-loop-command
invariant-loop-command l = AreFrom l.low l.commands ↔ AreFrom l.low (drop l.command-index l.commands)
