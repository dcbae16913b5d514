use Rattle.mq_tie.proofs.Ports.{keeps-ports}
use Rattle.mq_tie.proofs.laws.a_closed_desk_keeps_its_ports.Goals as goal

pub returns : goal.returns
returns g c = λ o views r run. keeps-ports g.P.Port.state g.P.Port.faults g.G.Groups.group o views r run
