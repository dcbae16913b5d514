use Rattle.mq_run_laws.proofs.RunsWhole.{legal}
use Rattle.mq_run_laws.proofs.laws.a_run_is_legal.Goals as goal

pub returns : goal.returns
returns g c = λ d ports s scripts finish e v run short low laid. legal g.P.Port g.P.Port.state g.P.Port.faults d ports s scripts finish e run short v low laid
