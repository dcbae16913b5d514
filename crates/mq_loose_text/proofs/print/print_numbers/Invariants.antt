use Rattle.std.proofs.Common.{◌≡◌, ◌++◌, drop}
use Rattle.mq_loose_text.specs.Text.{numbers_text}
use Rattle.mq_loose_text.proofs.print.print_numbers.Given as goal

-- what is printed, and the numbers that are left, are all
abbrev pub invariant-loop-number : goal.invariant-loop-number
invariant-loop-number l = l.text.items ++ numbers_text (drop l.number-index l.numbers) ≡ numbers_text l.numbers
