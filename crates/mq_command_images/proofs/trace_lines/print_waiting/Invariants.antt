use Rattle.std.proofs.Common.{◌≡◌, ◌++◌, drop}
use Rattle.mq_command_images.specs.Audits.{spaced_line, waiting_line}
use Rattle.mq_command_images.proofs.trace_lines.print_waiting.Given as goal

-- what is printed, and the numbers that are left, are all
abbrev pub invariant-loop-number : goal.invariant-loop-number
invariant-loop-number l = l.line.items ++ spaced_line (drop l.number-index l.numbers) ≡ waiting_line l.numbers
