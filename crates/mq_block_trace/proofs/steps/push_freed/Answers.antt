use Rattle.std.proofs.Common.{◌≡◌, ℕ, ◌+◌, ◌-◌, false, List, ◌∷◌, ◌++◌, sym, ◌∙◌, ap, subst, Vec, Global}
use Rattle.std.specs.Prelude.{decimal}
use Rattle.mq_block_trace.specs.Lines.{named}
use Rattle.mq_block_trace.proofs.Pushed.{dropped_free, dropped_kept, dropped_yes, drops_last, drops_none, drops_some, drops_text, is_dropped}
use Rattle.mq_block_trace.proofs.steps.push_freed.Goals as goal
use Rattle.mq_block_trace.proofs.steps.push_freed.Goals.{then-before-b+then-not-after-b+in_ok-block_after_space+in_ok-extend_from_slice, else-before-b, else-before-b-via-then-before-b+else-not-after-b, else-before-b-via-else-before-b}

pub loop-b-preserved : goal.loop-b-preserved
loop-b-preserved c =
    let before = c.args.before.now in
    let after = c.args.after.now in
    let b : ℕ = c.loop-b.b in
    let all : List ℕ = c.args.out.now.items ++ drops_text before after 0 named in
    let rest : List ℕ = drops_text before after (b + 1) (named - (b + 1)) in
    elim c.if-before-b.branch [
      | then-before-b+then-not-after-b+in_ok-block_after_space+in_ok-extend_from_slice w ↦
          let text : w.as_bytes.result.now ≡ 32 ∷ decimal b = w.as_bytes.ensures.value ∙ w.in_ok-block_after_space.ensures in
          let pushed : c.if-before-b.out.items ≡ c.loop-b.out.items ++ 32 ∷ decimal b =
          ap (λ (v : Vec ℕ Global). v.items) w.out-is ∙ w.in_ok-extend_from_slice.ensures.items ∙ ap (λ (l : List ℕ). c.loop-b.out.items ++ l) text in
          subst (λ (l : List ℕ). l ++ rest ≡ all) (sym pushed) (drops_some before after b c.loop-b.out.items all c.loop-b-test.true (dropped_yes before after b w.if-before-b.true w.if-not-after-b.true) c.loop-b.invariant)
      | else-before-b w ↦
          let same : is_dropped before after b ≡ false = elim w.else-before-b.branch [
            | else-before-b-via-then-before-b+else-not-after-b v ↦ dropped_kept before after b v.if-before-b.true v.if-not-after-b.false
            | else-before-b-via-else-before-b v ↦ dropped_free before after b v.if-before-b.false
          ] in
          subst (λ (v : Vec ℕ Global). v.items ++ rest ≡ all) (sym w.out-is) (drops_none before after b c.loop-b.out.items all c.loop-b-test.true same c.loop-b.invariant)
    ]

pub returns : goal.returns
returns c = drops_last c.args.before.now c.args.after.now c.loop-b.b c.loop-b.out.items _ c.loop-b-test.false c.loop-b.invariant
