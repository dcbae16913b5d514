use Rattle.std.proofs.Common.{◌≡◌, ◌≤◌, Bool, true, false, refl, sym, ap, ◌∙◌, arith}
use Rattle.std.specs.Prelude.{Some, not}
use Rattle.std.proofs.lemmas.Bool.{false≢true, leb-true}
use Rattle.mq_blocks.specs.Blocks.{content}
use Rattle.mq_blocks.specs.Geometry.{meta_of}
use Rattle.mq_tree.specs.Laid.{is_marked}
use Rattle.mq_calls.proofs.OpeningCells.{map-free, map-kept}
use Rattle.mq_calls.proofs.opening.cells.content_of.Goals as goal
use Rattle.mq_calls.proofs.opening.cells.content_of.Goals.{then-b-meta, else-b-meta}

marked-not : (free marked : Bool) → free ≡ not marked → (free ≡ true → marked ≡ false) × (free ≡ false → marked ≡ true)
marked-not free true e = (λ t. absurd (false≢true (sym e ∙ t)), λ f. refl)
marked-not free false e = (λ t. refl, λ f. absurd (false≢true (sym f ∙ e)))

pub returns-then-is_free : goal.returns-then-is_free
returns-then-is_free c = λ rest. elim c.if-b-meta.branch [
  | then-b-meta w ↦
      let free = (marked-not _ _ w.is_free-is).0 c.if-is_free.true in
      sym (map-free c.args.geometry c.args.before.now rest c.args.block c.args.b c.requires.place c.requires.home (omega arith) (sym w.is_marked.ensures ∙ free))
  | else-b-meta w ↦
      let high = leb-true _ _ (sym w.is_free-is ∙ c.if-is_free.true) in
      absurd (omega arith)
]

pub returns-in-Some : goal.returns-in-Some
returns-in-Some c = λ rest.
    let marked : meta_of c.args.geometry ≤ c.args.b → is_marked c.args.geometry c.args.before.now c.args.b ≡ true = λ high. elim c.if-b-meta.branch [
      | then-b-meta w ↦ sym w.is_marked.ensures ∙ (marked-not _ _ w.is_free-is).1 c.if-is_free.false
      | else-b-meta w ↦ absurd (omega arith)
    ] in
    sym (map-kept c.args.geometry c.args.before.now rest c.args.block c.args.b c.requires.place c.requires.home marked ∙ ap (λ x. Some (content x)) c.in-Some.is)

pub returns-in_ok-zeroed-in-None : goal.returns-in_ok-zeroed-in-None
returns-in_ok-zeroed-in-None c = λ rest.
    let marked : meta_of c.args.geometry ≤ c.args.b → is_marked c.args.geometry c.args.before.now c.args.b ≡ true = λ high. elim c.if-b-meta.branch [
      | then-b-meta w ↦ sym w.is_marked.ensures ∙ (marked-not _ _ w.is_free-is).1 c.if-is_free.false
      | else-b-meta w ↦ absurd (omega arith)
    ] in
    sym (map-kept c.args.geometry c.args.before.now rest c.args.block c.args.b c.requires.place c.requires.home marked ∙ (ap (λ x. Some (content x)) c.in-None.is ∙ ap Some (sym (c.in_ok-zeroed-in-None.ensures))))
