-- A chair that is answered a front.
use Rattle.std.proofs.Common.{◌≡◌, ℕ, ap, ◌∙◌}
use Rattle.mq_turns.specs.Meaning.{Meaning}
use Rattle.mq_turns.specs.Swept.{AfterFront}
use Rattle.mq_turns.specs.declared.rule.Opening.{Opening}
use Rattle.mq_turns.specs.declared.rule.ChairView.{ChairView}

-- what it holds, drew and read stays
pub front_kept : {P Q R E : Type 0} {μ : Meaning P Q R E} {o : Opening P Q R} {n : ℕ} {v w : ChairView P Q R E} → AfterFront μ o n v w
    → (w.opening ≡ v.opening) × (w.held ≡ v.held) × (w.drawn ≡ v.drawn) × (w.read ≡ v.read) × (w.session ≡ v.session)
front_kept {P} {Q} {R} {E} a =
    let kept = a.is in
    let swept = a.marks.sweep.is in (
      ap (λ (z : ChairView P Q R E). z.opening) kept ∙ ap (λ (z : ChairView P Q R E). z.opening) swept,
      ap (λ (z : ChairView P Q R E). z.held) kept ∙ ap (λ (z : ChairView P Q R E). z.held) swept,
      ap (λ (z : ChairView P Q R E). z.drawn) kept ∙ ap (λ (z : ChairView P Q R E). z.drawn) swept,
      ap (λ (z : ChairView P Q R E). z.read) kept ∙ ap (λ (z : ChairView P Q R E). z.read) swept,
      ap (λ (z : ChairView P Q R E). z.session) kept ∙ ap (λ (z : ChairView P Q R E). z.session) swept,
    )
