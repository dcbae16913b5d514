use Rattle.mq_test_turns.proofs.VoteLaws.{laws}
use Rattle.mq_test_turns.specs.declared.votes.Vote.{Vote}
use Rattle.mq_test_turns.proofs.votes.CountingMachine.obeys.Goals as goal

pub returns : goal.returns
returns g c = laws (λ (e : Vote). e.queue) (λ e. e.session) (λ e. e.group) (λ q. g.P.Port.state q.port)
