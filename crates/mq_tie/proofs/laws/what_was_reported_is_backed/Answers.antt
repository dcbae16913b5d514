use Rattle.mq_tie.proofs.Backed.{reports-backed}
use Rattle.mq_tie.proofs.laws.what_was_reported_is_backed.Goals as goal

pub returns : goal.returns
returns g c = λ o views r charge run reported. reports-backed g.P.Port.state g.P.Port.faults g.G.Groups.group o views r charge run reported
