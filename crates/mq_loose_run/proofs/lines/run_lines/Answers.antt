use Rattle.std.proofs.Common.{◌≡◌, ◌+◌, ℕ, suc, List, Err, length, ◌∙◌, ap, subst, arith}
use Rattle.std.proofs.lemmas.Result.{err_from_is_err_and}
use Rattle.mq_loose_text.specs.declared.line.LooseLine.{LooseLine}
use Rattle.mq_loose_run.specs.Lines.{HasRun, IsRunning, queues_state}
use Rattle.mq_loose_run.specs.Steps.{IsNext}
use Rattle.mq_loose_run.proofs.Texts.{all_fails, next_at}
use Rattle.mq_loose_run.proofs.lines.run_lines.Goals as goal

pub loop-line-init : goal.loop-line-init
loop-line-init c = λ fuse start run. run

pub run_line-requires : goal.run_line-requires
run_line-requires c =
    let (good, fuse, start, run) = c.requires in
    let lines : List LooseLine = c.args.text.now in
    let k : ℕ = c.loop-line.line-index in
    let next : IsNext lines k c.line-item.result = next_at c.deref-line-items.result.now lines k c.line-item.result good (c.deref-line-items.ensures.value ∙ c.text.view_is) c.loop-line-test.true c.line-item.is in
    (fuse, start, lines, k, next, c.loop-line.invariant fuse start run)

pub returns-in_err-run_line : goal.returns-in_err-run_line
returns-in_err-run_line c fuse start run =
    let lines : List LooseLine = c.args.text.now in
    let k : ℕ = c.loop-line.line-index in
    let next : IsNext lines k c.line-item.result = next_at c.deref-line-items.result.now lines k c.line-item.result c.requires.0 (c.deref-line-items.ensures.value ∙ c.text.view_is) c.loop-line-test.true c.line-item.is in
    let p = err_from_is_err_and c.from_residual.result c.from_residual.ensures.1 in
    all_fails (Unit {0}) fuse start lines k c.in_err-run_line.field-0.0 _ c.from_residual.result (c.in_err-run_line.ensures fuse start lines k next (c.loop-line.invariant fuse start run)) (p.1 ∙ ap (λ s. Err s) p.2)

pub loop-line-preserved : goal.loop-line-preserved
loop-line-preserved c = λ fuse start run.
    let lines : List LooseLine = c.args.text.now in
    let k : ℕ = c.loop-line.line-index in
    let next : IsNext lines k c.line-item.result = next_at c.deref-line-items.result.now lines k c.line-item.result c.requires.0 (c.deref-line-items.ensures.value ∙ c.text.view_is) c.loop-line-test.true c.line-item.is in
    subst (λ (n : ℕ). IsRunning fuse start lines n c.run_line.new.running) (let e : suc k ≡ k + 1 = omega arith in e) (c.in_ok-run_line.ensures fuse start lines k next (c.loop-line.invariant fuse start run))

pub returns : goal.returns
returns c = λ fuse start run.
    let lines : List LooseLine = c.args.text.now in
    let all : length c.deref-line-items.result.now ≡ length lines = ap length (c.deref-line-items.ensures.value ∙ c.text.view_is) in
    let over = c.loop-line-test.false in
    let end = c.loop-line.auto.line-index-end in
    let here : c.loop-line.line-index ≡ length lines = omega (arith, all, over, end) in
    subst (λ (n : ℕ). HasRun fuse start lines n (queues_state c.loop-line.running.queues)) here (c.loop-line.invariant fuse start run).run
