use Rattle.std.proofs.Common.{◌≡◌, ◌+◌, ◌-◌, length, take, drop, map, [], List, ℕ, Bor, ap, sym, arith, ◌∙◌, length-drop}
use Rattle.std.specs.Prelude.{Some}
use Rattle.std.proofs.lemmas.List.{take_all}
use Rattle.mq_audit.specs.Lists.{cut_by}
use Rattle.mq_audit.proofs.ListsReading.{put_none, cut_here, cut_later, cut_none}
use Rattle.mq_audit.proofs.lists.cut_words.Goals as goal

pub loop-at-init : goal.loop-at-init
loop-at-init c = put_none (cut_by c.args.word.now (map (λ w. w.now) c.args.words.now))

pub returns-then-eq : goal.returns-then-eq
returns-then-eq c =
    let d : Bor (List ℕ) = record { ref_ptr = (0, 0); now = [] } in
    let words = c.args.words.now in
    let i = c.loop-at.at in
    let all : take (length words - (i + 1)) (drop (i + 1) words) ≡ drop (i + 1) words = take_all (length words - (i + 1)) (drop (i + 1) words) (omega (arith, length-drop (i + 1) words)) in
    ap (λ (ws : List (Bor (List ℕ))). Some (map (λ (w : Bor (List ℕ)). w.now) (take i words), map (λ (w : Bor (List ℕ)). w.now) ws)) all
    ∙ sym (cut_here (λ (w : Bor (List ℕ)). w.now) c.args.word.now _ words d i c.loop-at-test.true c.loop-at.invariant (sym c.eq.ensures ∙ c.if-eq.true))

pub loop-at-preserved : goal.loop-at-preserved
loop-at-preserved c =
    let d : Bor (List ℕ) = record { ref_ptr = (0, 0); now = [] } in
    cut_later (λ (w : Bor (List ℕ)). w.now) c.args.word.now _ c.args.words.now d c.loop-at.at c.loop-at-test.true c.loop-at.invariant (sym c.eq.ensures ∙ c.if-eq.false)

pub returns : goal.returns
returns c = sym (cut_none (λ (w : Bor (List ℕ)). w.now) c.args.word.now _ c.args.words.now c.loop-at.at c.loop-at-test.false c.loop-at.invariant)
