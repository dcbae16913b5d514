use Rattle.std.proofs.Common.{true, List, sym, ◌∙◌, subst}
use Rattle.mq_kv.specs.Calls.{IsAnswered, IsDenied}
use Rattle.mq_kv_buckets.specs.declared.operation.KvOp.{KvOp}
use Rattle.mq_kv_run.specs.Played.{done, large, refused}
use Rattle.mq_sessions.specs.declared.answers.RefusalCause.{RefusalCause}
use Rattle.mq_turns.specs.AtDesk.{view}
use Rattle.mq_kv_run.proofs.playing.play_group.Goals as goal

pub returns-in-Ok-clause-played : goal.returns-in-Ok-clause-played
returns-in-Ok-clause-played g c =
    let s = c.args.session.now in
    let a = c.in-Ok.answer in
    done s.calls a.at a.drew a.replies.items (record { called = c.requires.ready.called; goes = c.commit.ensures.goes; opening = c.commit.ensures.desk.1 ∙ sym c.requires.desk.1 })
    (subst (λ (l : List KvOp). IsAnswered g.P.Port.state g.P.Port.faults c.args.store.now.geometry true s.queue s.calls l a.at a.drew a.replies.items (view s.chair) (view c.commit.new.session.chair)) (c.deref.ensures.value ∙ c.group.view_is) c.in-Ok.ensures.answered)

pub returns-in-TooLarge-clause-played : goal.returns-in-TooLarge-clause-played
returns-in-TooLarge-clause-played g c =
    let s = c.args.session.now in
    let r = c.in-Err.refusal in
    let denied = subst (λ (l : List KvOp). IsDenied g.P.Port.state g.P.Port.faults c.args.store.now.geometry true s.queue s.calls l (view s.chair) (view c.commit.new.session.chair) r.cause r.drawn) (c.deref.ensures.value ∙ c.group.view_is) c.in-Err.ensures.refused in
    large s.calls c.in-TooLarge.count c.in-TooLarge.limit r.drawn (record { called = c.requires.ready.called; goes = c.commit.ensures.goes; opening = c.commit.ensures.desk.1 ∙ sym c.requires.desk.1 })
    (subst (λ (w : RefusalCause). IsDenied g.P.Port.state g.P.Port.faults c.args.store.now.geometry true s.queue s.calls c.args.group.now (view s.chair) (view c.commit.new.session.chair) w r.drawn) c.in-TooLarge.is denied)

pub returns-in-Drive-clause-played : goal.returns-in-Drive-clause-played
returns-in-Drive-clause-played g c =
    let s = c.args.session.now in
    let r = c.in-Err.refusal in
    let denied = subst (λ (l : List KvOp). IsDenied g.P.Port.state g.P.Port.faults c.args.store.now.geometry true s.queue s.calls l (view s.chair) (view c.commit.new.session.chair) r.cause r.drawn) (c.deref.ensures.value ∙ c.group.view_is) c.in-Err.ensures.refused in
    refused s.calls c.in-Drive.field-0 r.drawn (record { called = c.requires.ready.called; goes = c.commit.ensures.goes; opening = c.commit.ensures.desk.1 ∙ sym c.requires.desk.1 })
    (subst (λ (w : RefusalCause). IsDenied g.P.Port.state g.P.Port.faults c.args.store.now.geometry true s.queue s.calls c.args.group.now (view s.chair) (view c.commit.new.session.chair) w r.drawn) c.in-Drive.is denied)
