use Rattle.std.proofs.Common.{◌≡◌, drop}
use Rattle.mq_run_laws.specs.Legal.{newest as newest_of}
use Rattle.mq_command_run.proofs.generating.newest.Given as goal

-- the lines that are left lead from the number of the last one to that of all
abbrev pub invariant-loop-line : goal.invariant-loop-line
invariant-loop-line l = newest_of l.number (drop l.line-index l.lines) ≡ newest_of 0 l.lines
