use Rattle.mq_run.proofs.Rings.{rang-once}
use Rattle.mq_run.proofs.laws.a_run_rings_once_for_each_commit.Goals as goal

pub returns : goal.returns
returns g c = λ d ports s scripts finish e q run lt. rang-once g.P.Port g.P.Port.state g.P.Port.faults d ports s scripts finish e q run lt
