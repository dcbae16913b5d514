use Rattle.std.proofs.Common.{◌≡◌, Bool, false, ap, ◌∙◌}
use Rattle.std.specs.Prelude.{Some, None}
use Rattle.mq_blocks.specs.Journal.{is_among}
use Rattle.mq_sessions.specs.Drawn.{page_with}
use Rattle.mq_revoke.specs.Placed.{Placed}
use Rattle.mq_sessions.proofs.DrawnSettled.{left_none, left_some, page_none, page_some}
use Rattle.mq_sessions.proofs.drawn.page_after.Goals as goal

pub returns-in-Some-clause-cell : goal.returns-in-Some-clause-cell
returns-in-Some-clause-cell c =
    let b = c.args.block in
    let took = c.in-Some.ensures in
    let logged : c.is_in-logged.result ≡ is_among b c.args.plan.now.logged = c.is_in-logged.ensures ∙ ap (is_among b) (c.deref.ensures.value ∙ ap (λ (p : Placed). p.logged) c.plan.view_is) in
    let direct : c.is_in-direct.result ≡ is_among b c.args.plan.now.direct = c.is_in-direct.ensures ∙ ap (is_among b) (c.deref-2.ensures.value ∙ ap (λ (p : Placed). p.direct) c.plan.view_is) in
    c.page_with.ensures
    ∙ ((λ i. page_with c.args.cell c.args.number (Some c.in-Some.write.content) (logged i) (direct i) (c.is_in-freed.ensures i))
    ∙ page_some c.args.number b c.args.plan.now c.args.writes.now.items c.take_write.new.writes.items c.in-Some.write c.args.frees.now c.args.cell took.0 took.1 c.requires.writes)

pub returns-in-Some-clause-left : goal.returns-in-Some-clause-left
returns-in-Some-clause-left c = left_some c.args.block c.args.writes.now.items c.take_write.new.writes.items c.in-Some.write c.in-Some.ensures.0 c.in-Some.ensures.1 c.requires.writes

pub returns-in-None-clause-cell : goal.returns-in-None-clause-cell
returns-in-None-clause-cell c =
    c.page_with-in-None.ensures
    ∙ (ap (λ (f : Bool). page_with c.args.cell c.args.number None false false f) c.is_in-freed.ensures
    ∙ page_none c.args.number c.args.block c.args.plan.now c.args.writes.now.items c.args.frees.now c.args.cell c.in-None.ensures.1 c.requires.writes)

pub returns-in-None-clause-left : goal.returns-in-None-clause-left
returns-in-None-clause-left c = left_none c.args.block c.args.writes.now.items c.take_write.new.writes.items c.in-None.ensures.0 c.in-None.ensures.1 c.requires.writes
