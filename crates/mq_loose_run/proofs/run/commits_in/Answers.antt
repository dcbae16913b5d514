use Rattle.std.proofs.Common.{◌≡◌, ◌+◌, ℕ, suc, List, length, sym, ◌∙◌, ap, arith}
use Rattle.mq_loose_text.specs.Meaning.{after_line, drawn_by}
use Rattle.mq_loose_text.specs.declared.line.LooseLine.{LooseLine}
use Rattle.mq_loose_run.specs.Steps.{IsNext}
use Rattle.mq_loose_run.proofs.Counts.{drawn_few}
use Rattle.mq_loose_run.proofs.Texts.{next_at}
use Rattle.mq_loose_run.proofs.run.commits_in.Goals as goal

pub commits_with-count-requires : goal.commits_with-count-requires
commits_with-count-requires c =
    let lines : List LooseLine = c.args.text.now in
    let k : ℕ = c.loop-line.line-index in
    let next : IsNext lines k c.line-item.result = next_at c.deref-line-items.result.now lines k c.line-item.result c.requires (c.deref-line-items.ensures.value ∙ c.text.view_is) c.loop-line-test.true c.line-item.is in
    let inside = next.inside in
    let few = drawn_few k lines c.requires (omega (arith, inside)) in
    let number = c.loop-line.invariant in
    omega (arith, few, number)

pub loop-line-preserved : goal.loop-line-preserved
loop-line-preserved c =
    let lines : List LooseLine = c.args.text.now in
    let k : ℕ = c.loop-line.line-index in
    let next : IsNext lines k c.line-item.result = next_at c.deref-line-items.result.now lines k c.line-item.result c.requires (c.deref-line-items.ensures.value ∙ c.text.view_is) c.loop-line-test.true c.line-item.is in
    c.commits_with-count.ensures (drawn_by lines k) c.loop-line.invariant ∙ ap (λ (l : LooseLine). length (after_line l (drawn_by lines k))) (sym next.is) ∙ ap (λ (n : ℕ). length (drawn_by lines n)) (let e : suc k ≡ k + 1 = omega arith in e)

pub returns : goal.returns
returns c =
    let lines : List LooseLine = c.args.text.now in
    let all : length c.deref-line-items.result.now ≡ length lines = ap length (c.deref-line-items.ensures.value ∙ c.text.view_is) in
    let over = c.loop-line-test.false in
    let end = c.loop-line.auto.line-index-end in
    let here : c.loop-line.line-index ≡ length lines = omega (arith, all, over, end) in
    c.loop-line.invariant ∙ ap (λ (n : ℕ). length (drawn_by lines n)) here
