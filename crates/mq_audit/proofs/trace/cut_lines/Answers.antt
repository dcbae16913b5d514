use Rattle.std.proofs.Common.{arith, ◌≡◌, [], ◌∷◌, ◌++◌, List, ℕ, Bor, map, sym, ap, ◌∙◌}
use Rattle.std.proofs.lemmas.List.{map-append, nil_from_length}
use Rattle.mq_block_text.proofs.TextParts.{split_some}
use Rattle.mq_audit.specs.Traces.{before_last, last_of}
use Rattle.mq_audit.proofs.TracesReading.{before_last_is, last_of_is}
use Rattle.mq_audit.proofs.trace.cut_lines.Goals as goal
use Rattle.mq_audit.proofs.trace.cut_lines.Goals.{In-Some}

parts_are : (c : In-Some) → map (λ (w : Bor (List ℕ)). w.now) c.in_ok-whole.whole.items ≡ map (λ (w : Bor (List ℕ)). w.now) c.pop.new.self.items ++ c.in-Some.tail.now ∷ []
parts_are c = ap (map (λ (w : Bor (List ℕ)). w.now)) c.in-Some.ensures.items ∙ map-append (λ (w : Bor (List ℕ)). w.now) c.pop.new.self.items (c.in-Some.tail ∷ [])

pub returns-in-Some-clause-whole : goal.returns-in-Some-clause-whole
returns-in-Some-clause-whole c =
    let parts = parts_are (goal.at.returns-in-Some-clause-whole c).In-Some in
    sym (ap before_last (sym c.in_ok-whole.ensures ∙ parts) ∙ before_last_is (map (λ (w : Bor (List ℕ)). w.now) c.pop.new.self.items) c.in-Some.tail.now)

pub returns-in-Some-clause-tail : goal.returns-in-Some-clause-tail
returns-in-Some-clause-tail c =
    let parts = parts_are (goal.at.returns-in-Some-clause-tail c).In-Some in
    sym (ap last_of (sym c.in_ok-whole.ensures ∙ parts) ∙ last_of_is (map (λ (w : Bor (List ℕ)). w.now) c.pop.new.self.items) c.in-Some.tail.now)

pub returns-in-None-clause-tail : goal.returns-in-None-clause-tail
returns-in-None-clause-tail c =
    let none : c.in_ok-whole.whole.items ≡ [] = nil_from_length c.in_ok-whole.whole.items (omega (arith, c.in-None.ensures.cases.0, c.in_ok-whole.whole.ok.0)) in
    absurd (split_some _ c.args.bytes.now (sym c.in_ok-whole.ensures ∙ ap (map (λ (w : Bor (List ℕ)). w.now)) none))
