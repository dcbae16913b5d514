use Rattle.mq_run_laws.proofs.SumsPorts.{charged-once}
use Rattle.mq_run_laws.proofs.laws.a_refusal_is_charged_once.Goals as goal

pub returns : goal.returns
returns g c = λ d ports s scripts finish e f run short. charged-once g.P.Port g.P.Port.state g.P.Port.faults d ports s scripts finish e run short f
