use Rattle.mq_turns.specs.AtDesk.{view}
use Rattle.mq_sessions.proofs.DrainsBeside.{goes-settled, has-settled, only-read}
use Rattle.mq_sessions.proofs.settling.settle_at.Goals as goal

pub returns-clause-reads : goal.returns-clause-reads
returns-clause-reads g c =
    let e = c.settle.ensures in
    only-read g.P.Port.state g.P.Port.faults g.G.Groups.group c.args.queue c.settle.result (view c.args.chair.now) (view c.settle.new.chair) e.swept e.refused

pub returns-clause-goes : goal.returns-clause-goes
returns-clause-goes g c =
    let e = c.settle.ensures in
    goes-settled g.P.Port.state g.P.Port.faults g.G.Groups.group c.args.queue c.settle.result (view c.args.chair.now) (view c.settle.new.chair) e.swept e.refused

pub returns-clause-settled : goal.returns-clause-settled
returns-clause-settled g c =
    has-settled g.P.Port.state g.P.Port.faults g.G.Groups.group c.args.queue c.settle.result (view c.args.chair.now) (view c.settle.new.chair) c.settle.ensures.settled
