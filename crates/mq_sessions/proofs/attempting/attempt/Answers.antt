use Rattle.std.proofs.lemmas.Result.{IfErr-weaker, IfOk-weaker}
use Rattle.mq_turns.specs.AtDesk.{view}
use Rattle.mq_sessions.specs.Acts.{WaitsForNone}
use Rattle.mq_sessions.specs.Attempts.{Acts}
use Rattle.mq_sessions.specs.Calls.{call_of}
use Rattle.mq_sessions.specs.Committing.{IsMissed}
use Rattle.mq_sessions.specs.declared.answers.Answer.{Answer}
use Rattle.mq_sessions.proofs.ActsUnderWay.{waits-same}
use Rattle.mq_sessions.proofs.Attempts.{goes-same, goes-then}
use Rattle.mq_sessions.proofs.AttemptsComposing.{acts-same, missed-same}
use Rattle.mq_sessions.proofs.SessionsCalled.{keeps-all, left-along, left-same}
use Rattle.mq_sessions.proofs.attempting.attempt.Goals as goal

pub returns-in-Ok-clause-rests : goal.returns-in-Ok-clause-rests
returns-in-Ok-clause-rests g c = left-along c.args.session.now.held c.run_held.new.held c.finish.new.session.held (view c.args.session.now.chair) (view c.run_held.new.chair) (view c.finish.new.session.chair) c.in-Ok.ensures.same c.finish.ensures.rests c.in-Ok.ensures.room

pub returns-in-Ok-clause-goes : goal.returns-in-Ok-clause-goes
returns-in-Ok-clause-goes g c =
    let v = view c.args.session.now.chair in
    let m = view c.run_held.new.chair in
    goes-then v m (view c.finish.new.session.chair) (goes-same v m c.in-Ok.ensures.same) c.finish.ensures.goes

pub returns-in-Ok-clause-acts : goal.returns-in-Ok-clause-acts
returns-in-Ok-clause-acts g c =
    let cs = g.G.Executor.calls in
    let geometry = c.args.geometry in
    let call = call_of c.args.asked.now in
    let v = view c.args.session.now.chair in
    let m = view c.run_held.new.chair in
    let w = view c.finish.new.session.chair in
    IfOk-weaker c.finish.result (λ (a : Answer _). Acts cs geometry call a.at a.drew a.replies.items m w) (λ (a : Answer _). Acts cs geometry call a.at a.drew a.replies.items v w) (λ a acts. acts-same cs geometry call a.at a.drew a.replies.items v m w c.in-Ok.ensures.same acts) c.finish.ensures.acts

pub returns-in-Ok-clause-waits : goal.returns-in-Ok-clause-waits
returns-in-Ok-clause-waits g c =
    let q = c.args.asked.now.queue in
    let v = view c.args.session.now.chair in
    let m = view c.run_held.new.chair in
    let w = view c.finish.new.session.chair in
    IfOk-weaker c.finish.result (λ (a : Answer _). WaitsForNone q a.at a.drew m w) (λ (a : Answer _). WaitsForNone q a.at a.drew v w) (λ a waits. waits-same q a.at a.drew v m w c.in-Ok.ensures.same waits) c.finish.ensures.waits

pub returns-in-Ok-clause-missed : goal.returns-in-Ok-clause-missed
returns-in-Ok-clause-missed g c =
    let st = g.P.Port.state in
    let fs = g.P.Port.faults in
    let gr = g.G.Groups.group in
    let cs = g.G.Executor.calls in
    let geometry = c.args.geometry in
    let call = call_of c.args.asked.now in
    let v = view c.args.session.now.chair in
    let m = view c.run_held.new.chair in
    let w = view c.finish.new.session.chair in
    IfErr-weaker c.finish.result (IsMissed st fs gr cs geometry call m w) (IsMissed st fs gr cs geometry call v w) (λ x missed. missed-same st fs gr cs geometry call v m w x c.in-Ok.ensures.same missed) c.finish.ensures.missed

pub returns-in-Err-clause-rests : goal.returns-in-Err-clause-rests
returns-in-Err-clause-rests g c =
    let e = c.in-Err.ensures in
    left-same c.args.session.now.held c.run_held.new.held (view c.args.session.now.chair) (view c.run_held.new.chair) e.same e.idle.0 e.idle.1 e.room

pub returns-in-Err-clause-goes : goal.returns-in-Err-clause-goes
returns-in-Err-clause-goes g c = goes-same (view c.args.session.now.chair) (view c.run_held.new.chair) c.in-Err.ensures.same

pub returns-in-Err-clause-missed : goal.returns-in-Err-clause-missed
returns-in-Err-clause-missed g c = keeps-all (view c.args.session.now.chair) (view c.run_held.new.chair) c.in-Err.ensures.same
