use Rattle.std.proofs.Common.{◌≡◌, drop}
use Rattle.mq_core.specs.Bases.{writes_none}
use Rattle.mq_core.specs.Parts.{whole}
use Rattle.mq_core.proofs.machine.parts.Parts.writes_none.Given as goal

-- the rest of the commands decides
abbrev pub invariant-loop-command : goal.invariant-loop-command
invariant-loop-command l = writes_none (whole l.self) l.base l.commands ≡ writes_none (whole l.self) l.base (drop l.command-index l.commands)
