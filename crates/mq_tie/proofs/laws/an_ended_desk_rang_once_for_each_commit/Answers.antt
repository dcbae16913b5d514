use Rattle.mq_tie.proofs.Rings.{rang-once}
use Rattle.mq_tie.proofs.laws.an_ended_desk_rang_once_for_each_commit.Goals as goal

pub returns : goal.returns
returns g c = λ o views r q run lt. rang-once g.P.Port.state g.P.Port.faults g.G.Groups.group o views r q run lt
