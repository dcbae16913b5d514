use Rattle.std.proofs.Common.{◌≡◌, ℕ, ◌+◌, ◌-◌, List, [], ◌∷◌, ◌++◌, get_or, None, sym, ◌∙◌, ap, subst, arith, Vec, Global}
use Rattle.std.proofs.lemmas.List.{append-nil}
use Rattle.mq_blocks.specs.Blocks.{filled}
use Rattle.mq_blocks.specs.Geometry.{area_lba}
use Rattle.mq_blocks.specs.declared.geometry.Geometry.{Geometry}
use Rattle.mq_blocks.specs.Machine.{Writes}
use Rattle.mq_command_blocks.specs.Commits.{copies_from}
use Rattle.mq_block_trace.specs.Lines.{writes_from, named}
use Rattle.mq_pmr.specs.Runs.{Items}
use Rattle.mq_block_trace.proofs.LinesFills.{Fill, writes_last}
use Rattle.mq_command_blocks.proofs.LinesFills.{copies_none, copies_some}
use Rattle.mq_command_blocks.proofs.items.copies.Goals as goal
use Rattle.mq_command_blocks.proofs.items.copies.Goals.{in-None, in-Some+in_ok-filled-in-Some+in_ok-push-in-Some}

pub loop-b-preserved : goal.loop-b-preserved
loop-b-preserved c =
    let f : Fill = λ b. get_or c.args.fills.now b None in
    let g : Geometry = c.args.geometry in
    let all : Items = copies_from g c.args.place (writes_from f 0 named) in
    let inv = c.loop-b.invariant in
    elim c.match-fills-b.branch [
      | in-None w ↦
          let place : c.match-fills-b.place ≡ c.loop-b.place = w.place-is in
          record {
            few = omega (arith, place, inv.few);
            is =
                subst (λ (n : ℕ). all ≡ c.match-fills-b.items.items ++ copies_from g n (writes_from f (c.loop-b.b + 1) (named - (c.loop-b.b + 1)))) (sym place)
                (subst (λ (v : Vec (ℕ × List ℕ) Global). all ≡ v.items ++ copies_from g c.loop-b.place (writes_from f (c.loop-b.b + 1) (named - (c.loop-b.b + 1)))) (sym w.items-is)
                (copies_none g f c.loop-b.b c.loop-b.place c.loop-b.items.items all c.loop-b-test.true w.in-None.is inv.is));
          }
      | in-Some+in_ok-filled-in-Some+in_ok-push-in-Some w ↦
          let place : c.match-fills-b.place ≡ c.loop-b.place + 1 = w.place-is in
          let v : ℕ = w.in-Some.byte in
          let pushed : c.match-fills-b.items.items ≡ c.loop-b.items.items ++ (area_lba g 0 c.loop-b.place, filled v) ∷ [] =
          ap (λ (q : Vec (ℕ × List ℕ) Global). q.items) w.items-is ∙ w.in_ok-push-in-Some.ensures.items
          ∙ (λ i. c.loop-b.items.items ++ (w.area_lba-lba.ensures i, w.in_ok-filled-in-Some.ensures i) ∷ []) in
          record {
            few = omega (arith, place, inv.few);
            is =
                subst (λ (n : ℕ). all ≡ c.match-fills-b.items.items ++ copies_from g n (writes_from f (c.loop-b.b + 1) (named - (c.loop-b.b + 1)))) (sym place)
                (subst (λ (l : Items). all ≡ l ++ copies_from g (c.loop-b.place + 1) (writes_from f (c.loop-b.b + 1) (named - (c.loop-b.b + 1)))) (sym pushed)
                (copies_some g f c.loop-b.b v c.loop-b.place c.loop-b.items.items all c.loop-b-test.true w.in-Some.is inv.is));
          }
    ]

pub returns : goal.returns
returns c =
    let f : Fill = λ b. get_or c.args.fills.now b None in
    sym (c.loop-b.invariant.is ∙ ap (λ (ws : Writes). c.loop-b.items.items ++ copies_from c.args.geometry c.loop-b.place ws) (writes_last f c.loop-b.b c.loop-b-test.false) ∙ append-nil c.loop-b.items.items)
