use Rattle.std.proofs.Common.{◌≡◌, ℕ, ◌+◌, ◌-◌, false, List, [], ◌∷◌, ◌++◌, sym, ◌∙◌, ap, subst, Vec, Global}
use Rattle.mq_block_trace.specs.Lines.{named}
use Rattle.mq_block_trace.specs.Marks.{dropped_from}
use Rattle.mq_block_trace.proofs.Pushed.{dropped_free, dropped_kept, dropped_yes, is_dropped}
use Rattle.mq_loose_run.proofs.ItemLists.{drop_last, drop_none, drop_some}
use Rattle.mq_loose_run.proofs.items.dropped_blocks.Goals as goal
use Rattle.mq_loose_run.proofs.items.dropped_blocks.Goals.{then-before-b+then-not-after-b+in_ok-push, else-before-b, else-before-b-via-then-before-b+else-not-after-b, else-before-b-via-else-before-b}

pub loop-b-preserved : goal.loop-b-preserved
loop-b-preserved c =
    let before = c.args.before.now in
    let after = c.args.after.now in
    let b : ℕ = c.loop-b.b in
    let all : List ℕ = dropped_from before after 0 named in
    let rest : List ℕ = dropped_from before after (b + 1) (named - (b + 1)) in
    elim c.if-before-b.branch [
      | then-before-b+then-not-after-b+in_ok-push w ↦
          let pushed : c.if-before-b.blocks.items ≡ c.loop-b.blocks.items ++ b ∷ [] = ap (λ (v : Vec ℕ Global). v.items) w.blocks-is ∙ w.in_ok-push.ensures.items in
          subst (λ (l : List ℕ). all ≡ l ++ rest) (sym pushed) (drop_some before after b c.loop-b.blocks.items all c.loop-b-test.true (dropped_yes before after b w.if-before-b.true w.if-not-after-b.true) c.loop-b.invariant)
      | else-before-b w ↦
          let same : is_dropped before after b ≡ false = elim w.else-before-b.branch [
            | else-before-b-via-then-before-b+else-not-after-b v ↦ dropped_kept before after b v.if-before-b.true v.if-not-after-b.false
            | else-before-b-via-else-before-b v ↦ dropped_free before after b v.if-before-b.false
          ] in
          subst (λ (v : Vec ℕ Global). all ≡ v.items ++ rest) (sym w.blocks-is) (drop_none before after b c.loop-b.blocks.items all c.loop-b-test.true same c.loop-b.invariant)
    ]

pub returns : goal.returns
returns c = sym (drop_last c.args.before.now c.args.after.now c.loop-b.b c.loop-b.blocks.items _ c.loop-b-test.false c.loop-b.invariant)
