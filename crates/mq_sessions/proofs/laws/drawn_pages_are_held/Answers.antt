use Rattle.mq_sessions.proofs.DrawnPages.{drawn-held}
use Rattle.mq_sessions.proofs.laws.drawn_pages_are_held.Goals as goal

pub returns : goal.returns
returns g c = λ o q e old new n cells opening draws h. drawn-held g.P.Port.state g.P.Port.faults g.G.Groups.group o q e old new c.args.side.now n opening draws cells h
