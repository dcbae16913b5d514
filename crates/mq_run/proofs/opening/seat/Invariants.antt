use Rattle.std.proofs.Common.{◌≡◌, ◌+◌, ◌≤◌, ◌++◌, length, map}
use Rattle.std.specs.List.{All}
use Rattle.std.specs.Prelude.{reverse, vec_capacity}
use Rattle.mq_run.specs.Seating.{kit_of}
use Rattle.mq_run.proofs.opening.seat.Given as goal

abbrev pub invariant-loop-user : goal.invariant-loop-user
invariant-loop-user g l = record {
  left : l.sessions.items ++ map (λ p. p.session.runner.user) (reverse l.pairs.items) ≡ l.fn.sessions.items;
  helpers_left : l.helpers.items ++ map (λ p. p.helper.assistant.helper) (reverse l.pairs.items) ≡ l.fn.helpers.items;
  kits_left : l.kits.items ++ map (λ p. kit_of p.session.runner.told p.session.runner.reads p.line p.session.announcing p.helper.listening) (reverse l.pairs.items) ≡ l.fn.kits.items;
  queues : All (λ p. p.helper.assistant.queue ≡ p.session.runner.user.queue) l.pairs.items;
  helpers : length l.helpers.items ≡ length l.sessions.items;
  kits : length l.kits.items ≡ length l.sessions.items;
  room : length l.sessions.items + length l.pairs.items ≤ vec_capacity l.pairs;
}

abbrev pub decreases-loop-user : goal.decreases-loop-user
decreases-loop-user g l = length l.sessions.items
