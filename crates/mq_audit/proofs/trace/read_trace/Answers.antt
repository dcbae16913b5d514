use Rattle.std.proofs.Common.{◌≡◌, ◌∷◌, List, ℕ, Bor, Err, map, sym, ap, subst, ◌∙◌}
use Rattle.mq_audit.specs.Traces.{Gives, IsReading, rest_in, lines_of}
use Rattle.mq_audit.proofs.TracesReading.{reading_is, misread_head}
use Rattle.mq_audit.proofs.trace.read_trace.Goals as goal
use Rattle.mq_audit.proofs.trace.read_trace.Goals.{In-Some}

lines_are : (c : In-Some) → lines_of c.args.bytes.now ≡ c.in-Some.head.now.now ∷ map (λ (w : Bor (List ℕ)). w.now) c.in-Some.rest.now
lines_are c = sym c.in_ok-lines.ensures.whole ∙ ap (map (λ (w : Bor (List ℕ)). w.now)) (sym c.deref.ensures.value ∙ c.in-Some.ensures.cases.0)

pub returns-in-Ok-clause-reading : goal.returns-in-Ok-clause-reading
returns-in-Ok-clause-reading c =
    reading_is c.args.bytes.now c.read_rest.result c.in-Some.head.now.now (map (λ (w : Bor (List ℕ)). w.now) c.in-Some.rest.now) c.in-Ok.start.0 c.in-Ok.start.1 (lines_are (goal.at.returns-in-Ok-clause-reading c).In-Some) c.in-Ok.ensures.ok
    (subst (λ tail. Gives (rest_in c.in-Ok.start.0 c.in-Ok.start.1 (map (λ (w : Bor (List ℕ)). w.now) c.in-Some.rest.now) tail) c.read_rest.result) c.in_ok-lines.ensures.tail c.read_rest.ensures.answer)

pub returns-clause-reading : goal.returns-clause-reading
returns-clause-reading c =
    subst (λ r. IsReading c.args.bytes.now (Err r)) (sym c.at.ensures)
    (misread_head c.args.bytes.now c.in-Err.misread c.in-Some.head.now.now (map (λ (w : Bor (List ℕ)). w.now) c.in-Some.rest.now) (lines_are (goal.at.returns-clause-reading c).In-Some) c.in-Err.ensures.refused)
