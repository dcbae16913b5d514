use Rattle.std.specs.Prelude.{true}
use Rattle.mq_turns.specs.AtDesk.{view}
use Rattle.mq_sessions.specs.Calls.{call_by}
use Rattle.mq_sessions.specs.Synchronizing.{before}
use Rattle.mq_sessions.proofs.Attempts.{goes-then}
use Rattle.mq_sessions.proofs.AttemptsComposing.{durable-of, not-durable}
use Rattle.mq_sessions.proofs.acting.act_durably.Goals as goal

pub returns-in-Ok-drained-clause-goes : goal.returns-in-Ok-drained-clause-goes
returns-in-Ok-drained-clause-goes g c = goes-then (view c.args.session.now.chair) (view c.carry_out.new.session.chair) (view c.drain-drained.new.session.chair) c.carry_out.ensures.goes c.drain-drained.ensures.goes

pub returns-in-Ok-drained-clause-durable : goal.returns-in-Ok-drained-clause-durable
returns-in-Ok-drained-clause-durable g c =
    let s = c.args.session.now in
    let a = c.in-Ok.answer in
    durable-of g.P.Port.state g.P.Port.faults g.G.Groups.group g.G.Executor.calls c.args.geometry (call_by s.queue s.calls true c.args.requests.now) a.at a.drew a.replies.items (view s.chair) (view c.carry_out.new.session.chair) (view c.drain-drained.new.session.chair) c.in-Ok.ensures.acts c.in-Ok-drained.ensures.swept c.in-Ok-drained.ensures.done

pub returns-in-Err-drained-clause-goes : goal.returns-in-Err-drained-clause-goes
returns-in-Err-drained-clause-goes g c = goes-then (view c.args.session.now.chair) (view c.carry_out.new.session.chair) (view c.drain-drained.new.session.chair) c.carry_out.ensures.goes c.drain-drained.ensures.goes

pub returns-in-Err-drained-clause-refused : goal.returns-in-Err-drained-clause-refused
returns-in-Err-drained-clause-refused g c =
    let s = c.args.session.now in
    let a = c.in-Ok.answer in
    let r = c.in-Err-drained.refusal in
    not-durable g.P.Port.state g.P.Port.faults g.G.Groups.group g.G.Executor.calls c.args.geometry (call_by s.queue s.calls true c.args.requests.now) a.at a.drew a.replies.items (view s.chair) (view c.carry_out.new.session.chair) (view c.drain-drained.new.session.chair) r.cause r.drawn c.in-Ok.ensures.acts c.in-Err-drained.ensures.refused

pub returns-in-Err-clause-refused : goal.returns-in-Err-clause-refused
returns-in-Err-clause-refused g c = before c.in-Err.ensures.refused
