use Rattle.std.proofs.Common.{ℕ, ◌∙◌, sym, subst}
use Rattle.mq_turns.specs.AtDesk.{view}
use Rattle.mq_sessions.specs.Calls.{IsReady, call_of}
use Rattle.mq_sessions.specs.Refusing.{IsRefused, no_room}
use Rattle.mq_sessions.specs.declared.answers.Refusal.{Refusal}
use Rattle.mq_sessions.proofs.Attempts.{goes-then}
use Rattle.mq_sessions.proofs.AttemptsAgain.{acted-again, fits-then, full-of, ready-between, refused-again, turned-of, waits-again}
use Rattle.mq_sessions.proofs.AttemptsComposing.{called-acts, called-turned}
use Rattle.mq_sessions.proofs.SessionsCalled.{ready-attempted, ready-more}
use Rattle.mq_sessions.proofs.acting.act_again.Goals as goal

pub checkpoint-requires-clause-ready : goal.checkpoint-requires-clause-ready
checkpoint-requires-clause-ready g c =
    let gr = g.G.Groups.group in
    let s = c.args.session.now in
    let a = c.args.asked.now in
    let v = view s.chair in
    let geometry = c.args.geometry in
    subst (λ (q : ℕ). IsReady gr geometry q s.calls s.held v) (sym c.requires.queue)
    (subst (λ (n : ℕ). IsReady gr geometry a.queue n s.held v) (sym c.requires.calls) (ready-more gr geometry a.queue a.calls s.held v c.requires.ready))

pub attempt-requires-clause-ready : goal.attempt-requires-clause-ready
attempt-requires-clause-ready g c =
    let s = c.args.session.now in
    let a = c.args.asked.now in
    let m = view c.checkpoint.new.session.chair in
    ready-between g.P.Port.state g.P.Port.faults g.G.Groups.group c.args.geometry a.queue a.calls c.in-Ok.field-0 s.held c.checkpoint.new.session.held (view s.chair) m c.checkpoint.ensures.held c.in-Ok.ensures.raised c.requires.ready

-- ---- the group was done

pub returns-in-Ok-attempt-clause-ready : goal.returns-in-Ok-attempt-clause-ready
returns-in-Ok-attempt-clause-ready g c =
    let st = g.P.Port.state in
    let fs = g.P.Port.faults in
    let gr = g.G.Groups.group in
    let cs = g.G.Executor.calls in
    let a = c.args.asked.now in
    let m = view c.checkpoint.new.session.chair in
    let t = c.attempt.new.session in
    let r = c.in-Ok-attempt.answer in
    let geometry = c.args.geometry in
    let s = c.args.session.now in
    let ready = ready-between st fs gr geometry a.queue a.calls c.in-Ok.field-0 s.held c.checkpoint.new.session.held (view s.chair) m c.checkpoint.ensures.held c.in-Ok.ensures.raised c.requires.ready in
    let called = called-acts st fs gr cs geometry (call_of a) r.at r.drew r.replies.items m (view t.chair) c.answers_are_of_calls.ensures c.in-Ok-attempt.ensures.acts ready.called in
    ready-attempted gr geometry a.queue a.calls t.queue t.calls c.checkpoint.new.session.held t.held m (view t.chair) ready c.attempt.ensures.rests called (c.attempt.ensures.queue ∙ c.checkpoint.ensures.queue ∙ c.requires.queue) (c.attempt.ensures.calls ∙ c.checkpoint.ensures.calls ∙ c.requires.calls)

pub returns-in-Ok-attempt-clause-goes : goal.returns-in-Ok-attempt-clause-goes
returns-in-Ok-attempt-clause-goes g c = goes-then (view c.args.session.now.chair) (view c.checkpoint.new.session.chair) (view c.attempt.new.session.chair) c.checkpoint.ensures.goes c.attempt.ensures.goes

pub returns-in-Ok-attempt-clause-acts : goal.returns-in-Ok-attempt-clause-acts
returns-in-Ok-attempt-clause-acts g c = λ first full.
    let r = c.in-Ok-attempt.answer in
    acted-again g.P.Port.state g.P.Port.faults g.G.Groups.group g.G.Executor.calls c.args.geometry (call_of c.args.asked.now) r.at r.drew r.replies.items c.in-Ok.field-0 first (view c.args.session.now.chair) (view c.checkpoint.new.session.chair) (view c.attempt.new.session.chair) full c.in-Ok.ensures.raised c.in-Ok-attempt.ensures.acts

pub returns-in-Ok-attempt-clause-waits : goal.returns-in-Ok-attempt-clause-waits
returns-in-Ok-attempt-clause-waits g c = λ first full.
    let r = c.in-Ok-attempt.answer in
    waits-again g.P.Port.state g.P.Port.faults g.G.Groups.group g.G.Executor.calls c.args.geometry (call_of c.args.asked.now) r.at r.drew c.in-Ok.field-0 first (view c.args.session.now.chair) (view c.checkpoint.new.session.chair) (view c.attempt.new.session.chair) full c.in-Ok.ensures.raised c.in-Ok-attempt.ensures.waits

-- ---- it was turned down

pub returns-in-Some-clause-ready : goal.returns-in-Some-clause-ready
returns-in-Some-clause-ready g c =
    let st = g.P.Port.state in
    let fs = g.P.Port.faults in
    let gr = g.G.Groups.group in
    let cs = g.G.Executor.calls in
    let a = c.args.asked.now in
    let m = view c.checkpoint.new.session.chair in
    let t = c.attempt.new.session in
    let e = c.in-Err-attempt in
    let r = c.in-Some.refusal in
    let geometry = c.args.geometry in
    let turned = turned-of st fs gr cs geometry (call_of a) e.miss r m (view t.chair) (sym c.in-Some.ensures) e.ensures.missed in
    let s = c.args.session.now in
    let ready = ready-between st fs gr geometry a.queue a.calls c.in-Ok.field-0 s.held c.checkpoint.new.session.held (view s.chair) m c.checkpoint.ensures.held c.in-Ok.ensures.raised c.requires.ready in
    let called = called-turned st fs gr cs geometry (call_of a) m (view t.chair) r.cause r.drawn c.answers_are_of_calls.ensures turned ready.called in
    ready-attempted gr geometry a.queue a.calls t.queue t.calls c.checkpoint.new.session.held t.held m (view t.chair) ready c.attempt.ensures.rests called (c.attempt.ensures.queue ∙ c.checkpoint.ensures.queue ∙ c.requires.queue) (c.attempt.ensures.calls ∙ c.checkpoint.ensures.calls ∙ c.requires.calls)

pub returns-in-Some-clause-goes : goal.returns-in-Some-clause-goes
returns-in-Some-clause-goes g c = goes-then (view c.args.session.now.chair) (view c.checkpoint.new.session.chair) (view c.attempt.new.session.chair) c.checkpoint.ensures.goes c.attempt.ensures.goes

pub returns-in-Some-clause-refused : goal.returns-in-Some-clause-refused
returns-in-Some-clause-refused g c = λ first full.
    let st = g.P.Port.state in
    let fs = g.P.Port.faults in
    let gr = g.G.Groups.group in
    let cs = g.G.Executor.calls in
    let geometry = c.args.geometry in
    let call = call_of c.args.asked.now in
    let m = view c.checkpoint.new.session.chair in
    let w = view c.attempt.new.session.chair in
    let e = c.in-Err-attempt in
    let r = c.in-Some.refusal in
    refused-again st fs gr cs geometry call r.cause r.drawn c.in-Ok.field-0 first (view c.args.session.now.chair) m w full c.in-Ok.ensures.raised (turned-of st fs gr cs geometry call e.miss r m w (sym c.in-Some.ensures) e.ensures.missed)

-- ---- its plan fits now

pub unreachable-requires : goal.unreachable-requires
unreachable-requires g c =
    let st = g.P.Port.state in
    let fs = g.P.Port.faults in
    let gr = g.G.Groups.group in
    let cs = g.G.Executor.calls in
    let geometry = c.args.geometry in
    let call = call_of c.args.asked.now in
    let m = view c.checkpoint.new.session.chair in
    let w = view c.attempt.new.session.chair in
    let e = c.in-Err-attempt in
    fits-then st fs gr cs geometry call c.in-Ok.field-0 (view c.args.session.now.chair) m w c.in-Ok.ensures.raised (full-of st fs gr cs geometry call e.miss m w (sym c.in-None.ensures) e.ensures.missed)

-- ---- the checkpoint was refused

pub returns-in-Err-clause-refused : goal.returns-in-Err-clause-refused
returns-in-Err-clause-refused g c = λ first full.
    let st = g.P.Port.state in
    let fs = g.P.Port.faults in
    let gr = g.G.Groups.group in
    let cs = g.G.Executor.calls in
    let geometry = c.args.geometry in
    let call = call_of c.args.asked.now in
    let w = view c.checkpoint.new.session.chair in
    subst (λ (x : Refusal). IsRefused st fs gr cs geometry call first w x.cause x.drawn) (sym c.no_room.ensures) (no_room c.in-Err.why full c.in-Err.ensures.refused)
