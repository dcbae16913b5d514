use Rattle.std.proofs.Common.{length, arith, sym, ap, subst, ◌∙◌}
use Rattle.mq_core.specs.Machine.{AreAllowed, IsRefusal}
use Rattle.mq_ledger.specs.Plain.{plain}
use Rattle.mq_ledger.specs.State.{State}
use Rattle.mq_audit.specs.Findings.{HasTold, told_in}
use Rattle.mq_audit.specs.Traces.{Trace}
use Rattle.mq_audit.proofs.Findings.{end_is, end_base, end_drawn, end_table, finds_accepted, refused_low}
use Rattle.mq_audit.proofs.finding.run_events.Goals as goal

pub accepted-requires-clause-base : goal.accepted-requires-clause-base
accepted-requires-clause-base c =
    let t : Trace = record { geometry = c.args.geometry; base = c.args.base; start = c.args.start.now; events = c.args.events.items } in
    end_base t c.in_ok-core.core c.in-Ok.core c.in_ok-core.ensures c.in-Ok.ensures.done

pub accepted-requires-clause-drawn : goal.accepted-requires-clause-drawn
accepted-requires-clause-drawn c =
    let t : Trace = record { geometry = c.args.geometry; base = c.args.base; start = c.args.start.now; events = c.args.events.items } in
    let most = end_drawn t c.in_ok-core.core c.in-Ok.core c.in_ok-core.ensures c.in-Ok.ensures.done in
    omega (arith, most, ap length c.deref-in-Ok.ensures.value, c.in_ok-told.ensures.length, ap length c.deref.ensures.value)

pub accepted-requires-clause-told : goal.accepted-requires-clause-told
accepted-requires-clause-told c =
    let t : Trace = record { geometry = c.args.geometry; base = c.args.base; start = c.args.start.now; events = c.args.events.items } in
    let base = c.base.view_is in
    let table = subst (λ events. HasTold c.base.inside.0 (told_in events) c.in_ok-told.told.items) c.deref.ensures.value c.in_ok-told.ensures.told in
    let seen = subst (λ told. HasTold c.base.inside.0 (told_in c.args.events.items) told) (sym c.deref-in-Ok.ensures.value) table in
    end_table t c.in_ok-core.core c.in-Ok.core c.in_ok-core.ensures c.in-Ok.ensures.done c.deref-in-Ok.result.now
    (subst (λ b. HasTold b (told_in c.args.events.items) c.deref-in-Ok.result.now) base seen)

pub returns-in-Ok : goal.returns-in-Ok
returns-in-Ok c =
    let t : Trace = record { geometry = c.args.geometry; base = c.args.base; start = c.args.start.now; events = c.args.events.items } in
    finds_accepted t c.in-Ok.core c.len-count.result c.accepted.result (end_is t c.in_ok-core.core c.in-Ok.core c.in_ok-core.ensures c.in-Ok.ensures.done) (c.len-count.ensures ∙ c.args.events.ok.0)
    (subst (λ (s : State). AreAllowed plain c.args.events.items s) c.in_ok-core.ensures c.in-Ok.ensures.allowed) c.accepted.ensures

pub refused-requires : goal.refused-requires
refused-requires c =
    let t : Trace = record { geometry = c.args.geometry; base = c.args.base; start = c.args.start.now; events = c.args.events.items } in
    refused_low t c.in-Err.refusal (omega (arith, c.args.events.ok.0, c.args.events.ok.1, c.args.events.small))
    (subst (λ (s : State). IsRefusal plain c.args.events.items s c.in-Err.refusal) c.in_ok-core.ensures c.in-Err.ensures.refused)
