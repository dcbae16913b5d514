use Rattle.std.proofs.Common.{subst, sym}
use Rattle.mq_calls.specs.Group.{file_group}
use Rattle.mq_sessions.specs.Calls.{IsReady}
use Rattle.mq_sessions.proofs.SessionsCalled.{ready-as, ready-told}
use Rattle.mq_turns.specs.AtDesk.{view}
use Rattle.mq_calls.proofs.telling.Mqfs+P.tell.Goals as goal

pub returns-clause-from_ready : goal.returns-clause-from_ready
returns-clause-from_ready g c =
    let s = c.args.from.now in
    let t = c.tell.new.from in
    let e = c.tell.ensures in
    let geometry = c.args.self.now.geometry in
    subst (λ v. IsReady file_group geometry t.queue t.calls t.held v) (sym e.from) (ready-as file_group geometry s.queue t.queue s.calls t.calls s.held t.held (view s.chair) e.queues.0 e.calls.0 e.held.0 c.requires.from_ready)

pub returns-clause-to_ready : goal.returns-clause-to_ready
returns-clause-to_ready g c =
    let s = c.args.to.now in
    let t = c.tell.new.to in
    let e = c.tell.ensures in
    let geometry = c.args.self.now.geometry in
    let told = ready-told file_group geometry s.queue s.calls e.to.0 s.held (view s.chair) c.requires.to_ready in
    subst (λ v. IsReady file_group geometry t.queue t.calls t.held v) (sym e.to.1) (ready-as file_group geometry s.queue t.queue s.calls t.calls s.held t.held _ e.queues.1 e.calls.1 e.held.1 told)
