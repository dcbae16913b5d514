use Rattle.mq_run_laws.proofs.BackedBlames.{is-backed}
use Rattle.mq_run_laws.proofs.laws.a_refusal_is_backed.Goals as goal

pub returns : goal.returns
returns g c = λ d ports s scripts finish e t r cause run short c bad is. is-backed g.P.Port g.P.Port.state g.P.Port.faults d ports s scripts finish e run short t r cause c bad is
