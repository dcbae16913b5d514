use Rattle.mq_run.proofs.LawsFinished.{finished-clean}
use Rattle.mq_run.proofs.laws.a_finished_run_is_clean.Goals as goal

pub returns : goal.returns
returns g c = λ d ports s scripts finish e n run is. finished-clean g.P.Port g.P.Port.state g.P.Port.faults d ports s scripts finish e n run is
