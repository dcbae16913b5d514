use Rattle.std.proofs.Common.{ℕ, ◌+◌, ◌-◌, ◌++◌, ◌∷◌, [], sym, ◌∙◌, ap, List}
use Rattle.std.proofs.lemmas.List.{append-nil}
use Rattle.mq_blocks.specs.Blocks.{block_at}
use Rattle.mq_block_trace.specs.Lines.{live_from, named}
use Rattle.mq_command_blocks.proofs.LiveBlocks.{live_none, live_some, live_last}
use Rattle.mq_command_blocks.proofs.live.live_blocks.Goals as goal
use Rattle.mq_command_blocks.proofs.live.live_blocks.Goals.{in-true+in_ok-push-in-true, in-false}

pub loop-b-preserved : goal.loop-b-preserved
loop-b-preserved c = λ m marks holds. elim c.if-marks-b.branch [
  | in-true+in_ok-push-in-true w ↦
      live_some m c.loop-b.b (block_at c.args.homes.now c.loop-b.b) c.loop-b.live.items c.loop-b-test.true (sym (marks c.loop-b.b c.loop-b-test.true) ∙ w.in-true.is) (λ v is. holds c.loop-b.b v c.loop-b-test.true is) (c.loop-b.invariant m marks holds)
      ∙ ap (λ (l : List (ℕ × ℕ)). l ++ live_from m (c.loop-b.b + 1) (named - (c.loop-b.b + 1))) (sym (ap (λ v. v.items) w.live-is ∙ w.in_ok-push-in-true.ensures.items ∙ ap (λ (n : ℕ). c.loop-b.live.items ++ (c.loop-b.b, n) ∷ []) w.first_byte-byte.ensures))
  | in-false w ↦
      live_none m c.loop-b.b c.loop-b.live.items c.loop-b-test.true (sym (marks c.loop-b.b c.loop-b-test.true) ∙ w.in-false.is) (c.loop-b.invariant m marks holds)
      ∙ ap (λ v. v.items ++ live_from m (c.loop-b.b + 1) (named - (c.loop-b.b + 1))) (sym w.live-is)
]

pub returns : goal.returns
returns c m marks holds =
    sym (c.loop-b.invariant m marks holds ∙ ap (λ (l : List (ℕ × ℕ)). c.loop-b.live.items ++ l) (live_last m c.loop-b.b c.loop-b-test.false) ∙ append-nil c.loop-b.live.items)
