use Rattle.std.proofs.Common.{◌≡◌, ◌-◌}
use Rattle.mq_command_replicate.specs.Links.{arrivals_left, losses_in_a_row}
use Rattle.mq_command_replicate.proofs.link.send.Given as goal

-- what comes of the words that are left, with fewer losses in a row, comes of all
abbrev pub invariant-loop : goal.invariant-loop
invariant-loop l = arrivals_left losses_in_a_row l.fn.words ≡ arrivals_left (losses_in_a_row - l.counter) l.words
