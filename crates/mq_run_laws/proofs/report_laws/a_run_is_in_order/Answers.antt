use Rattle.mq_run_laws.proofs.Orders.{answers-order, lines-order}
use Rattle.mq_run_laws.proofs.report_laws.a_run_is_in_order.Goals as goal

pub returns : goal.returns
returns g c = λ d ports s scripts finish e run short. (
  lines-order g.P.Port g.P.Port.state g.P.Port.faults d ports s scripts finish e run short,
  answers-order g.P.Port g.P.Port.state g.P.Port.faults d ports s scripts finish e run,
)
