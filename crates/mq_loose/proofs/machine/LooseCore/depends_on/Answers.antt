use Rattle.std.proofs.Common.{◌≡◌, ◌++◌, ap, ◌∙◌}
use Rattle.mq_ledger.specs.History.{blocks_of}
use Rattle.mq_ledger.specs.State.{State}
use Rattle.mq_loose_order.specs.Dependence.{depends_on, last_of_each}
use Rattle.mq_loose.specs.Rows.{with_lasts}
use Rattle.mq_loose.proofs.Lasts.{lasts-all, lasts-both}
use Rattle.mq_loose.proofs.machine.LooseCore.depends_on.Goals as goal

pub returns : goal.returns
returns c =
    let i = c.self.inside in
    let t = c.args.tx.now in
    let b = i.ledger.base in
    let h = i.ledger.history in
    let first : c.add_changes.new.numbers ≡ last_of_each b t.freed h = c.in_ok-add_changes.ensures ∙ (λ k. with_lasts b (c.as_slice-2.ensures k) h (c.new-numbers.ensures k)) ∙ lasts-all b t.freed h in
    let logged : c.deref.result.now ≡ blocks_of t.logged = c.deref.ensures.value ∙ c.in_ok-logged.ensures ∙ ap blocks_of c.as_slice.ensures in
    let second : c.add_changes-2.new.numbers ≡ last_of_each b (blocks_of t.logged ++ t.freed) h = c.in_ok-add_changes-2.ensures ∙ (λ k. with_lasts b (logged k) h (first k)) ∙ lasts-both b (blocks_of t.logged) t.freed h in
    second ∙ ap (λ (v : State). depends_on v.base t v.history) c.self.view_is
