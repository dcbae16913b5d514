use Rattle.mq_journal.proofs.LawsInHand.{held_is_current}
use Rattle.mq_journal.proofs.laws.a_held_side_is_current.Goals as goal

pub returns : goal.returns
returns g c = held_is_current g.P.Port.state g.P.Port.faults g.G.Groups.group c.args.side.now
