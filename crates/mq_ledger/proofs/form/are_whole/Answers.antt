use Rattle.std.proofs.Common.{◌≡◌, ℕ, List, length, ap, sym, refl, ◌∙◌, arith, rules}
use Rattle.std.proofs.lemmas.Bool.{false≢true}
use Rattle.mq_ledger.proofs.RecordsLists.{goes, all-step, all-stop, all-end}
use Rattle.mq_ledger.proofs.form.are_whole.Goals as goal

pub loop-write-preserved : goal.loop-write-preserved
loop-write-preserved c =
    let P : ℕ × List ℕ → Type 0 = λ w. length w.1 ≡ 4096 in
    let size : c.len.result ≡ length c.content.inside.0.items = search rules in
    let long : length c.write-item.result.1 ≡ 4096 = ap length (sym c.content.view_is) ∙ sym size ∙ c.if-len-ne4096.false in
    goes c.loop-write.invariant (all-step P c.args.writes.now c.loop-write.write-index c.write-item.result (omega arith) c.write-item.is long)

pub returns : goal.returns
returns c =
    let P : ℕ × List ℕ → Type 0 = λ w. length w.1 ≡ 4096 in
    (λ t. c.loop-write.invariant.back (all-end P c.args.writes.now c.loop-write.write-index (omega arith)), λ a. refl)

pub returns-then-len-ne4096 : goal.returns-then-len-ne4096
returns-then-len-ne4096 c =
    let P : ℕ × List ℕ → Type 0 = λ w. length w.1 ≡ 4096 in
    let size : c.len.result ≡ length c.content.inside.0.items = search rules in
    (λ t. absurd (false≢true t), λ all. absurd (all-stop P c.args.writes.now c.loop-write.write-index c.write-item.result (omega arith) c.write-item.is (λ e. c.if-len-ne4096.true (size ∙ ap length c.content.view_is ∙ e)) (c.loop-write.invariant.on all)))
