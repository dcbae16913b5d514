use Rattle.std.proofs.Common.{◌≡◌, ◌+◌, ℕ, suc, List, length, refl, sym, ◌∙◌, ap, subst, arith}
use Rattle.mq_loose_text.specs.Meaning.{after_line, drawn_by}
use Rattle.mq_loose_text.specs.declared.line.LooseLine.{LooseLine}
use Rattle.mq_loose_run.specs.Markings.{IsMarking}
use Rattle.mq_loose_run.specs.Steps.{IsNext}
use Rattle.mq_loose_run.proofs.Counts.{drawn_few}
use Rattle.mq_loose_run.proofs.MarksKept.{none_marking}
use Rattle.mq_loose_run.proofs.Texts.{next_at}
use Rattle.mq_loose_run.proofs.marks.marks_after.Goals as goal

pub loop-line-init : goal.loop-line-init
loop-line-init c = none_marking c.args.set.now _ refl (c.in_ok-vec.ensures.items_if_clones_equal (λ y h. h)) (c.in_ok-vec-2.ensures.items_if_clones_equal (λ y h. h))

pub mark_text_line-requires-clause-few : goal.mark_text_line-requires-clause-few
mark_text_line-requires-clause-few c =
    let lines : List LooseLine = c.args.text.now in
    let k : ℕ = c.loop-line.line-index in
    let next : IsNext lines k c.line-item.result = next_at c.deref-line-items.result.now lines k c.line-item.result c.requires (c.deref-line-items.ensures.value ∙ c.text.view_is) c.loop-line-test.true c.line-item.is in
    let inside = next.inside in
    let few = drawn_few k lines c.requires (omega (arith, inside)) in
    let number = c.loop-line.invariant.number in
    omega (arith, few, number)

pub mark_text_line-requires-clause-whole : goal.mark_text_line-requires-clause-whole
mark_text_line-requires-clause-whole c = c.loop-line.invariant.all_whole

pub mark_text_line-requires-clause-kept : goal.mark_text_line-requires-clause-kept
mark_text_line-requires-clause-kept c = c.loop-line.invariant.kept_whole

pub loop-line-preserved : goal.loop-line-preserved
loop-line-preserved c =
    let lines : List LooseLine = c.args.text.now in
    let k : ℕ = c.loop-line.line-index in
    let next : IsNext lines k c.line-item.result = next_at c.deref-line-items.result.now lines k c.line-item.result c.requires (c.deref-line-items.ensures.value ∙ c.text.view_is) c.loop-line-test.true c.line-item.is in
    let m = c.mark_text_line.new.marking in
    subst (λ (n : ℕ). IsMarking c.args.set.now (drawn_by lines n) m) (let e : suc k ≡ k + 1 = omega arith in e)
    (subst (λ (l : LooseLine). IsMarking c.args.set.now (after_line l (drawn_by lines k)) m) (sym next.is) (c.in_ok-mark_text_line.ensures (drawn_by lines k) c.loop-line.invariant))

pub returns-clause-whole : goal.returns-clause-whole
returns-clause-whole c = c.loop-line.invariant.kept_whole

pub returns-clause-marks : goal.returns-clause-marks
returns-clause-marks c =
    let lines : List LooseLine = c.args.text.now in
    let all : length c.deref-line-items.result.now ≡ length lines = ap length (c.deref-line-items.ensures.value ∙ c.text.view_is) in
    let over = c.loop-line-test.false in
    let end = c.loop-line.auto.line-index-end in
    let here : c.loop-line.line-index ≡ length lines = omega (arith, all, over, end) in
    (subst (λ (n : ℕ). IsMarking c.args.set.now (drawn_by lines n) c.loop-line.marking) here c.loop-line.invariant).kept_are
