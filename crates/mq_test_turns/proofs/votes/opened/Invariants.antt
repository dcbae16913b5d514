use Rattle.std.proofs.Common.{◌≡◌, ◌≤◌, vec_len, vec_capacity}
use Rattle.mq_test_turns.proofs.votes.opened.Given as goal

abbrev pub invariant-loop : goal.invariant-loop
invariant-loop l = (vec_len l.all ≡ l.counter) × (l.sides ≤ vec_capacity l.all) × (l.counter ≤ l.sides)
