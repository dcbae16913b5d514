use Rattle.std.proofs.Common.{◌≡◌, ℕ, ◌+◌, ◌-◌, List, [], ◌∷◌, ◌++◌, get_or, None, sym, ◌∙◌, ap, subst, Vec, Global}
use Rattle.std.proofs.lemmas.List.{append-nil}
use Rattle.mq_blocks.specs.Machine.{Writes}
use Rattle.mq_command_blocks.specs.Commits.{blocks_in}
use Rattle.mq_block_trace.specs.Lines.{writes_from, named}
use Rattle.mq_block_trace.proofs.LinesFills.{Fill, writes_last}
use Rattle.mq_command_blocks.proofs.LinesFills.{blocks_none, blocks_some}
use Rattle.mq_command_blocks.proofs.items.filled_blocks.Goals as goal
use Rattle.mq_command_blocks.proofs.items.filled_blocks.Goals.{in-None, in-Some+in_ok-push-in-Some}

pub loop-b-preserved : goal.loop-b-preserved
loop-b-preserved c =
    let f : Fill = λ b. get_or c.args.fills.now b None in
    let all : List ℕ = blocks_in (writes_from f 0 named) in
    let after : List ℕ = blocks_in (writes_from f (c.loop-b.b + 1) (named - (c.loop-b.b + 1))) in
    elim c.match-fills-b.branch [
      | in-None w ↦
          subst (λ (v : Vec ℕ Global). all ≡ v.items ++ after) (sym w.blocks-is) (blocks_none f c.loop-b.b c.loop-b.blocks.items all c.loop-b-test.true w.in-None.is c.loop-b.invariant)
      | in-Some+in_ok-push-in-Some w ↦
          let pushed : c.match-fills-b.blocks.items ≡ c.loop-b.blocks.items ++ c.loop-b.b ∷ [] = ap (λ (v : Vec ℕ Global). v.items) w.blocks-is ∙ w.in_ok-push-in-Some.ensures.items in
          subst (λ (l : List ℕ). all ≡ l ++ after) (sym pushed) (blocks_some f c.loop-b.b w.in-Some.field-0 c.loop-b.blocks.items all c.loop-b-test.true w.in-Some.is c.loop-b.invariant)
    ]

pub returns : goal.returns
returns c =
    let f : Fill = λ b. get_or c.args.fills.now b None in
    sym (c.loop-b.invariant ∙ ap (λ (ws : Writes). c.loop-b.blocks.items ++ blocks_in ws) (writes_last f c.loop-b.b c.loop-b-test.false) ∙ append-nil c.loop-b.blocks.items)
