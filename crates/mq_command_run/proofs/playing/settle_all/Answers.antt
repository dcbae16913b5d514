use Rattle.std.proofs.Common.{◌≡◌, ◌∙◌, ℕ, Some, true, inl, inr, arith, get_or, sym, subst}
use Rattle.std.specs.Prelude.{slice_get}
use Rattle.std.proofs.lemmas.Bool.{cases_eq}
use Rattle.std.proofs.lemmas.Option.{get_or_from_slice_get, slice_get-get_or}
use Rattle.mq_run_laws.specs.Answers.{is_good}
use Rattle.mq_report.specs.declared.line.Told.{Told}
use Rattle.mq_command_run.proofs.playing.settle_all.Goals as goal

pub settle-requires : goal.settle-requires
settle-requires c = c.requires c.told-item.result (c.loop-told.told-index, c.loop-told-test.true, sym c.told-item.is)

pub loop-told-preserved : goal.loop-told-preserved
loop-told-preserved c = λ i d low at. elim (cases_eq i c.loop-told.told-index) [
  | inl same ↦
      let here : slice_get c.args.answers.now c.loop-told.told-index ≡ Some d = subst (λ (k : ℕ). slice_get c.args.answers.now k ≡ Some d) same at in
      let told : c.told-item.result ≡ d = c.told-item.is ∙ get_or_from_slice_get c.args.answers.now c.loop-told.told-index d c.told-item.result here in
      subst (λ (t : Told). is_good t.answer ≡ true) told c.in-Ok.ensures.good
  | inr other ↦ c.loop-told.invariant i d (omega (arith, low, other)) at
]

pub returns-in-Err-clause-wanting : goal.returns-in-Err-clause-wanting
returns-in-Err-clause-wanting c =
    let wants = c.in-Err.ensures.wanting in
    (c.told-item.result, (c.loop-told.told-index, c.loop-told-test.true, sym c.told-item.is), wants.0, wants.1, wants.2)

pub returns-clause-good : goal.returns-clause-good
returns-clause-good c = λ k d low.
    let over = c.loop-told-test.false in
    c.loop-told.invariant k (get_or c.args.answers.now k d) (omega (arith, low, over)) (slice_get-get_or c.args.answers.now k d low)
