use Rattle.std.proofs.Common.{◌≡◌, length, ap, subst, arith, rules}
use Rattle.mq_ledger.specs.History.{AreNumbered}
use Rattle.mq_ledger.specs.State.{State}
use Rattle.mq_loose.proofs.RowLists.{length-rows}
use Rattle.mq_loose.proofs.machine.LooseCore.base.Goals as goal

pub overflow_sub-result : goal.overflow_sub-result
overflow_sub-result c =
    let l : c.len.result ≡ length c.self.inside.rows.items = search rules in
    let r = length-rows c.self.inside.ledger.base c.self.inside.ledger.starts c.self.inside.ledger.history c.self.inside.rows.items c.self.invariant.rows in
    omega (arith, l, r, c.last.ensures.is, c.result.view_is)

pub returns : goal.returns
returns c =
    let l : c.len.result ≡ length c.self.inside.rows.items = search rules in
    let r = length-rows c.self.inside.ledger.base c.self.inside.ledger.starts c.self.inside.ledger.history c.self.inside.rows.items c.self.invariant.rows in
    record {
      is = omega (arith, l, r, c.last.ensures.is, c.result.view_is, ap (λ (t : State). t.base) c.self.view_is);
      numbers = subst (λ (t : State). AreNumbered t.base t.history) c.self.view_is c.self.invariant.held.facts.log.numbers;
    }
