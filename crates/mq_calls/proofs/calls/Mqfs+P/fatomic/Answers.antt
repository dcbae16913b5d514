use Rattle.std.proofs.Common.{false, refl, subst, sym}
use Rattle.mq_turns.specs.AtDesk.{view}
use Rattle.mq_calls.specs.Acts.{IsRefused}
use Rattle.mq_calls.specs.Calling.{call_by}
use Rattle.mq_queue_side.specs.declared.answers.Refusal.{Refusal}
use Rattle.mq_calls.proofs.calls.Mqfs+P.fatomic.Goals as goal

pub returns-in-Err-clause-refused : goal.returns-in-Err-clause-refused
returns-in-Err-clause-refused g c =
    let s = c.args.session.now in
    let v = view s.chair in
    let w = view c.act.new.session.chair in
    let call = call_by s.queue s.calls false c.args.requests.now in
    subst (λ (x : Refusal). IsRefused g.P.Port.state g.P.Port.faults c.args.self.now.geometry call v w x.cause x.drawn) (sym c.refused.ensures) (record { why = c.in-Err.refusal.cause; cause_is = refl; is = c.in-Err.ensures.refused })
