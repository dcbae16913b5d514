use Rattle.std.proofs.Common.{rules, ◌≤◌, sym, subst}
use Rattle.mq_turns.specs.Desk.{allotment}
use Rattle.mq_test_turns.proofs.VoteLaws.{count_starts, allots}
use Rattle.mq_test_turns.proofs.votes.opened.Goals as goal

pub new-requires-2-clause-starts : goal.new-requires-2-clause-starts
new-requires-2-clause-starts c = count_starts (λ e. e.queue) (λ e. e.session) (λ e. e.group) (λ q. q.port.count) _ (search rules)

pub returns-in-Ok-clause-many : goal.returns-in-Ok-clause-many
returns-in-Ok-clause-many c = let e = c.in-Ok.ensures.desk.1 in subst (λ n. 4294967296 ≤ allotment n) (sym e) (allots c.args.chairs c.requires.0 c.requires.1)
