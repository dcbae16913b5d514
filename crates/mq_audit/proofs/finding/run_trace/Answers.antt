use Rattle.std.proofs.Common.{List, Option, ℕ, subst}
use Rattle.std.specs.Prelude.{IfOk}
use Rattle.mq_audit.specs.Findings.{Finds}
use Rattle.mq_audit.specs.Traces.{Trace}
use Rattle.mq_audit.proofs.finding.run_trace.Goals as goal

pub returns : goal.returns
returns c =
    let i = c.trace.inside in
    let ran = subst (λ (blocks : List (Option (List ℕ))). IfOk c.run_events.result (Finds (record { geometry = i.geometry; base = i.base; start = blocks; events = i.events.items }))) c.deref.ensures.value c.run_events.ensures in
    subst (λ (t : Trace). IfOk c.run_events.result (Finds t)) c.trace.view_is ran
