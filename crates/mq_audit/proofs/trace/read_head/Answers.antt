use Rattle.std.proofs.Common.{◌≡◌, [], ◌∷◌, List, ℕ, Bor, get_or, map, sym, ap, ◌∙◌}
use Rattle.std.specs.Prelude.{codes}
use Rattle.mq_audit.specs.Lists.{headed}
use Rattle.mq_audit.proofs.TracesReading.{head_numbers}
use Rattle.mq_audit.proofs.trace.read_head.Goals as goal

pub returns-clause-refused : goal.returns-clause-refused
returns-clause-refused c = λ form g b head.
    let after = c.in-Some.ensures ∙ ap (λ (ws : List (Bor (List ℕ))). headed (codes "geometry") (map (λ (w : Bor (List ℕ)). w.now) ws)) c.deref.ensures.value ∙ ap (headed (codes "geometry")) c.in_ok-words.ensures in
    let same : c.deref-2.result.now ≡ g.queues ∷ g.area ∷ g.meta ∷ g.zone ∷ b ∷ [] = c.deref-2.ensures.value ∙ head_numbers _ _ c.in_ok-numbers.numbers.items _ after c.in_ok-numbers.ensures.ok head.words in
    c.geometry_of.ensures.only c.in-None.is g (ap (λ (l : List ℕ). get_or l 0 0) (sym same)) (ap (λ (l : List ℕ). get_or l 1 0) (sym same)) (ap (λ (l : List ℕ). get_or l 2 0) (sym same)) (ap (λ (l : List ℕ). get_or l 3 0) (sym same))
