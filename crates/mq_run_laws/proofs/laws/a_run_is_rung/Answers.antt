use Rattle.mq_run_laws.proofs.HistoriesRung.{is-rung}
use Rattle.mq_run_laws.proofs.laws.a_run_is_rung.Goals as goal

pub returns : goal.returns
returns g c = λ d ports s scripts finish e v q run short low laid own. is-rung g.P.Port g.P.Port.state g.P.Port.faults d ports s scripts finish e run short q own v low laid
