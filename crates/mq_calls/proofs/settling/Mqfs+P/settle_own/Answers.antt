use Rattle.mq_calls.specs.Group.{file_group}
use Rattle.mq_sessions.proofs.DrainsBeside.{still-ready}
use Rattle.mq_sessions.proofs.SessionsCalled.{ready-as}
use Rattle.mq_turns.specs.AtDesk.{view}
use Rattle.mq_calls.proofs.settling.Mqfs+P.settle_own.Goals as goal

pub returns-clause-ready : goal.returns-clause-ready
returns-clause-ready g c =
    let s = c.args.session.now in
    let t = c.settle_own.new.session in
    let e = c.settle_own.ensures in
    let geometry = c.args.self.now.geometry in
    let ready = still-ready g.P.Port.state g.P.Port.faults file_group geometry s.queue s.calls s.held (view s.chair) (view t.chair) e.reads c.requires.ready in
    ready-as file_group geometry s.queue t.queue s.calls t.calls s.held t.held (view t.chair) e.queue e.calls e.held ready
