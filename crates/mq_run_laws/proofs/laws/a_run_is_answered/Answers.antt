use Rattle.mq_run_laws.proofs.AnswersGiven.{are-answered}
use Rattle.mq_run_laws.proofs.laws.a_run_is_answered.Goals as goal

pub returns : goal.returns
returns g c = λ d ports s scripts finish e run short. are-answered g.P.Port g.P.Port.state g.P.Port.faults d ports s scripts finish e run short
