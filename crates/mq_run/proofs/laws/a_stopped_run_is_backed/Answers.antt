use Rattle.mq_run.proofs.LawsStopped.{stop-backed}
use Rattle.mq_run.proofs.laws.a_stopped_run_is_backed.Goals as goal

pub returns : goal.returns
returns g c = λ d ports s scripts finish e why run is. stop-backed g.P.Port g.P.Port.state g.P.Port.faults d ports s scripts finish e why run is
