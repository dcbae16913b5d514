use Rattle.std.proofs.Common.{◌≡◌, ℕ, ◌+◌, ◌-◌, List, [], ◌∷◌, ◌++◌, get_or, None, sym, ◌∙◌, ap, subst, Vec, Global}
use Rattle.std.proofs.lemmas.List.{append-nil}
use Rattle.mq_blocks.specs.Blocks.{filled}
use Rattle.mq_blocks.specs.Machine.{Writes}
use Rattle.mq_block_trace.specs.Lines.{writes_from, named}
use Rattle.mq_block_trace.proofs.LinesFills.{Fill, writes_last}
use Rattle.mq_command_blocks.proofs.ItemsWrites.{writes_none, writes_some}
use Rattle.mq_command_blocks.proofs.items.filled_writes.Goals as goal
use Rattle.mq_command_blocks.proofs.items.filled_writes.Goals.{in-None, in-Some+in_ok-filled-in-Some+in_ok-push-in-Some}

pub loop-b-preserved : goal.loop-b-preserved
loop-b-preserved c =
    let f : Fill = λ b. get_or c.args.fills.now b None in
    let all : Writes = writes_from f 0 named in
    let after : Writes = writes_from f (c.loop-b.b + 1) (named - (c.loop-b.b + 1)) in
    elim c.match-fills-b.branch [
      | in-None w ↦
          subst (λ (v : Vec (ℕ × List ℕ) Global). all ≡ v.items ++ after) (sym w.writes-is) (writes_none f c.loop-b.b c.loop-b.writes.items all c.loop-b-test.true w.in-None.is c.loop-b.invariant)
      | in-Some+in_ok-filled-in-Some+in_ok-push-in-Some w ↦
          let v : ℕ = w.in-Some.byte in
          let pushed : c.match-fills-b.writes.items ≡ c.loop-b.writes.items ++ (c.loop-b.b, filled v) ∷ [] =
          ap (λ (q : Vec (ℕ × List ℕ) Global). q.items) w.writes-is ∙ w.in_ok-push-in-Some.ensures.items ∙ (λ i. c.loop-b.writes.items ++ (c.loop-b.b, w.in_ok-filled-in-Some.ensures i) ∷ []) in
          subst (λ (l : Writes). all ≡ l ++ after) (sym pushed) (writes_some f c.loop-b.b v c.loop-b.writes.items all c.loop-b-test.true w.in-Some.is c.loop-b.invariant)
    ]

pub returns : goal.returns
returns c =
    let f : Fill = λ b. get_or c.args.fills.now b None in
    sym (c.loop-b.invariant ∙ ap (λ (ws : Writes). c.loop-b.writes.items ++ ws) (writes_last f c.loop-b.b c.loop-b-test.false) ∙ append-nil c.loop-b.writes.items)
