use Rattle.std.proofs.Common.{◌≡◌, ℕ, ◌+◌, ◌-◌, List, ◌∷◌, ◌++◌, get_or, None, sym, ◌∙◌, ap, subst, Vec, Global}
use Rattle.mq_block_text.specs.Text.{set_text}
use Rattle.mq_block_trace.specs.Lines.{named}
use Rattle.mq_block_trace.proofs.LinesFills.{Fill}
use Rattle.mq_block_trace.proofs.Pushed.{sets_last, sets_none, sets_some, sets_text}
use Rattle.mq_block_trace.proofs.steps.push_sets.Goals as goal
use Rattle.mq_block_trace.proofs.steps.push_sets.Goals.{in-None, in-Some+in_ok-set_after_space-in-Some+in_ok-extend_from_slice-in-Some}

pub loop-b-preserved : goal.loop-b-preserved
loop-b-preserved c =
    let f : Fill = λ b. get_or c.args.fills.now b None in
    let all : List ℕ = c.args.out.now.items ++ sets_text f 0 named in
    let after : List ℕ = sets_text f (c.loop-b.b + 1) (named - (c.loop-b.b + 1)) in
    elim c.match-fills-b.branch [
      | in-None w ↦
          subst (λ (v : Vec ℕ Global). v.items ++ after ≡ all) (sym w.out-is) (sets_none f c.loop-b.b c.loop-b.out.items all c.loop-b-test.true w.in-None.is c.loop-b.invariant)
      | in-Some+in_ok-set_after_space-in-Some+in_ok-extend_from_slice-in-Some w ↦
          let text : w.as_bytes.result.now ≡ 32 ∷ set_text c.loop-b.b w.in-Some.byte = w.as_bytes.ensures.value ∙ w.in_ok-set_after_space-in-Some.ensures in
          let pushed : c.match-fills-b.out.items ≡ c.loop-b.out.items ++ 32 ∷ set_text c.loop-b.b w.in-Some.byte =
          ap (λ (v : Vec ℕ Global). v.items) w.out-is ∙ w.in_ok-extend_from_slice-in-Some.ensures.items ∙ ap (λ (l : List ℕ). c.loop-b.out.items ++ l) text in
          subst (λ (l : List ℕ). l ++ after ≡ all) (sym pushed) (sets_some f c.loop-b.b w.in-Some.byte c.loop-b.out.items all c.loop-b-test.true w.in-Some.is c.loop-b.invariant)
    ]

pub returns : goal.returns
returns c = sets_last (λ b. get_or c.args.fills.now b None) c.loop-b.b c.loop-b.out.items _ c.loop-b-test.false c.loop-b.invariant
