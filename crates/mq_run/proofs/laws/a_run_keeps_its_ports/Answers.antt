use Rattle.mq_run.proofs.DrivesKeptPorts.{keeps-ports}
use Rattle.mq_run.proofs.laws.a_run_keeps_its_ports.Goals as goal

pub returns : goal.returns
returns g c = λ d ports s scripts finish e run. keeps-ports g.P.Port g.P.Port.state g.P.Port.faults d ports s scripts finish e run
