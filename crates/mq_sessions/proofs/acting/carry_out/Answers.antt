use Rattle.std.proofs.Common.{sym, subst}
use Rattle.std.proofs.lemmas.Result.{IfErr-weaker, IfOk-weaker}
use Rattle.mq_turns.specs.AtDesk.{view}
use Rattle.mq_sessions.specs.Attempts.{HasActed, HasNotWaited, at_once}
use Rattle.mq_sessions.specs.Calls.{call_by}
use Rattle.mq_sessions.specs.Refusing.{IsRefused, memory, turned_down}
use Rattle.mq_sessions.specs.declared.answers.Answer.{Answer}
use Rattle.mq_sessions.specs.declared.answers.Refusal.{Refusal}
use Rattle.mq_sessions.proofs.Attempts.{goes-at-once, goes-then}
use Rattle.mq_sessions.proofs.AttemptsAgain.{acted-at-once, full-of, ready-full, refused-at-once, turned-of, waits-at-once}
use Rattle.mq_sessions.proofs.AttemptsComposing.{called-acts, called-turned}
use Rattle.mq_sessions.proofs.SessionsCalled.{keeps-at-once, ready-attempted}
use Rattle.mq_sessions.proofs.acting.carry_out.Goals as goal

pub returns-then-session-ge-CALL_LIMIT-clause-goes : goal.returns-then-session-ge-CALL_LIMIT-clause-goes
returns-then-session-ge-CALL_LIMIT-clause-goes g c = goes-at-once (view c.args.session.now.chair)

pub returns-then-session-ge-CALL_LIMIT-clause-refused : goal.returns-then-session-ge-CALL_LIMIT-clause-refused
returns-then-session-ge-CALL_LIMIT-clause-refused g c =
    let s = c.args.session.now in
    let v = view s.chair in
    subst (λ (x : Refusal). IsRefused g.P.Port.state g.P.Port.faults g.G.Groups.group g.G.Executor.calls c.args.geometry (call_by s.queue s.calls c.args.durable c.args.requests.now) v v x.cause x.drawn) (sym c.refused.ensures) (turned_down at_once (memory (keeps-at-once v)))

-- ---- the group was done at once

pub returns-in-Ok-clause-ready : goal.returns-in-Ok-clause-ready
returns-in-Ok-clause-ready g c =
    let s = c.args.session.now in
    let t = c.attempt.new.session in
    let r = c.in-Ok.answer in
    let geometry = c.args.geometry in
    let called = called-acts g.P.Port.state g.P.Port.faults g.G.Groups.group g.G.Executor.calls geometry (call_by s.queue s.calls c.args.durable c.args.requests.now) r.at r.drew r.replies.items (view s.chair) (view t.chair) c.answers_are_of_calls.ensures c.in-Ok.ensures.acts c.requires.ready.called in
    ready-attempted g.G.Groups.group geometry s.queue s.calls t.queue t.calls s.held t.held (view s.chair) (view t.chair) c.requires.ready c.attempt.ensures.rests called c.attempt.ensures.queue c.attempt.ensures.calls

pub returns-in-Ok-clause-acts : goal.returns-in-Ok-clause-acts
returns-in-Ok-clause-acts g c =
    let s = c.args.session.now in
    let r = c.in-Ok.answer in
    acted-at-once g.P.Port.state g.P.Port.faults g.G.Groups.group g.G.Executor.calls c.args.geometry (call_by s.queue s.calls c.args.durable c.args.requests.now) r.at r.drew r.replies.items (view s.chair) (view c.attempt.new.session.chair) c.in-Ok.ensures.acts

pub returns-in-Ok-clause-waits : goal.returns-in-Ok-clause-waits
returns-in-Ok-clause-waits g c =
    let s = c.args.session.now in
    let r = c.in-Ok.answer in
    waits-at-once g.P.Port.state g.P.Port.faults g.G.Groups.group g.G.Executor.calls c.args.geometry (call_by s.queue s.calls c.args.durable c.args.requests.now) r.at r.drew (view s.chair) (view c.attempt.new.session.chair) c.in-Ok.ensures.waits

-- ---- it was turned down

pub returns-in-Some-clause-ready : goal.returns-in-Some-clause-ready
returns-in-Some-clause-ready g c =
    let st = g.P.Port.state in
    let fs = g.P.Port.faults in
    let gr = g.G.Groups.group in
    let cs = g.G.Executor.calls in
    let s = c.args.session.now in
    let t = c.attempt.new.session in
    let e = c.in-Err in
    let r = c.in-Some.refusal in
    let geometry = c.args.geometry in
    let call = call_by s.queue s.calls c.args.durable c.args.requests.now in
    let turned = turned-of st fs gr cs geometry call e.miss r (view s.chair) (view t.chair) (sym c.in-Some.ensures) e.ensures.missed in
    let called = called-turned st fs gr cs geometry call (view s.chair) (view t.chair) r.cause r.drawn c.answers_are_of_calls.ensures turned c.requires.ready.called in
    ready-attempted gr geometry s.queue s.calls t.queue t.calls s.held t.held (view s.chair) (view t.chair) c.requires.ready c.attempt.ensures.rests called c.attempt.ensures.queue c.attempt.ensures.calls

pub returns-in-Some-clause-refused : goal.returns-in-Some-clause-refused
returns-in-Some-clause-refused g c =
    let st = g.P.Port.state in
    let fs = g.P.Port.faults in
    let gr = g.G.Groups.group in
    let cs = g.G.Executor.calls in
    let s = c.args.session.now in
    let w = view c.attempt.new.session.chair in
    let e = c.in-Err in
    let r = c.in-Some.refusal in
    let geometry = c.args.geometry in
    let call = call_by s.queue s.calls c.args.durable c.args.requests.now in
    refused-at-once st fs gr cs geometry call r.cause r.drawn (view s.chair) w (turned-of st fs gr cs geometry call e.miss r (view s.chair) w (sym c.in-Some.ensures) e.ensures.missed)

-- ---- its plan did not fit

pub act_again-requires-clause-ready : goal.act_again-requires-clause-ready
act_again-requires-clause-ready g c =
    let st = g.P.Port.state in
    let fs = g.P.Port.faults in
    let gr = g.G.Groups.group in
    let cs = g.G.Executor.calls in
    let s = c.args.session.now in
    let t = c.attempt.new.session in
    let e = c.in-Err in
    let geometry = c.args.geometry in
    let call = call_by s.queue s.calls c.args.durable c.args.requests.now in
    ready-full st fs gr cs geometry call s.held t.held (view s.chair) (view t.chair) c.requires.ready c.attempt.ensures.rests (full-of st fs gr cs geometry call e.miss (view s.chair) (view t.chair) (sym c.in-None.ensures) e.ensures.missed)

pub returns-in-None-clause-goes : goal.returns-in-None-clause-goes
returns-in-None-clause-goes g c = goes-then (view c.args.session.now.chair) (view c.attempt.new.session.chair) (view c.act_again.new.session.chair) c.attempt.ensures.goes c.act_again.ensures.goes

pub returns-in-None-clause-acts : goal.returns-in-None-clause-acts
returns-in-None-clause-acts g c =
    let st = g.P.Port.state in
    let fs = g.P.Port.faults in
    let gr = g.G.Groups.group in
    let cs = g.G.Executor.calls in
    let s = c.args.session.now in
    let v = view s.chair in
    let w = view c.act_again.new.session.chair in
    let e = c.in-Err in
    let geometry = c.args.geometry in
    let call = call_by s.queue s.calls c.args.durable c.args.requests.now in
    let full = full-of st fs gr cs geometry call e.miss v (view c.attempt.new.session.chair) (sym c.in-None.ensures) e.ensures.missed in
    IfOk-weaker c.act_again.result _ (λ (a : Answer _). HasActed st fs gr cs geometry call a.at a.drew a.replies.items v w) (λ a acts. acts v full) c.act_again.ensures.acts

pub returns-in-None-clause-waits : goal.returns-in-None-clause-waits
returns-in-None-clause-waits g c =
    let st = g.P.Port.state in
    let fs = g.P.Port.faults in
    let gr = g.G.Groups.group in
    let cs = g.G.Executor.calls in
    let s = c.args.session.now in
    let v = view s.chair in
    let w = view c.act_again.new.session.chair in
    let e = c.in-Err in
    let geometry = c.args.geometry in
    let call = call_by s.queue s.calls c.args.durable c.args.requests.now in
    let full = full-of st fs gr cs geometry call e.miss v (view c.attempt.new.session.chair) (sym c.in-None.ensures) e.ensures.missed in
    IfOk-weaker c.act_again.result _ (λ (a : Answer _). HasNotWaited st fs gr cs geometry call a.at a.drew v w) (λ a waits. waits v full) c.act_again.ensures.waits

pub returns-in-None-clause-refused : goal.returns-in-None-clause-refused
returns-in-None-clause-refused g c =
    let st = g.P.Port.state in
    let fs = g.P.Port.faults in
    let gr = g.G.Groups.group in
    let cs = g.G.Executor.calls in
    let s = c.args.session.now in
    let v = view s.chair in
    let w = view c.act_again.new.session.chair in
    let e = c.in-Err in
    let geometry = c.args.geometry in
    let call = call_by s.queue s.calls c.args.durable c.args.requests.now in
    let full = full-of st fs gr cs geometry call e.miss v (view c.attempt.new.session.chair) (sym c.in-None.ensures) e.ensures.missed in
    IfErr-weaker c.act_again.result _ (λ (r : Refusal). IsRefused st fs gr cs geometry call v w r.cause r.drawn) (λ r refused. refused v full) c.act_again.ensures.refused
