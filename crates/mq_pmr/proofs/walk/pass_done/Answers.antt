use Rattle.std.proofs.Common.{◌∷◌, ◌∙◌, ap, sym, arith, rules}
use Rattle.mq_pmr.proofs.RungsWalking.{onward_next, onward_stops, first_end}
use Rattle.mq_pmr.proofs.walk.pass_done.Goals as goal

pub returns-then-not-pass_to-clause-walk : goal.returns-then-not-pass_to-clause-walk
returns-then-not-pass_to-clause-walk c limit ends low high =
    let on = c.transactions.invariant.onward limit ends low high in
    let is = rw c.in-Some.is at c.first_of.ensures in
    let stops = c.pass_to.ensures.no (search rules) in
    let more = c.pass_to.ensures.high limit on.high (first_end c.transactions.done.end limit c.in-Some.next _ c.transactions.rung.items is on.ends) in
    onward_stops _ limit _ _ _ c.transactions.passed c.pass_to.new.passed c.transactions.done c.in-Some.next c.transactions.rung.items _ on is c.pass_to.ensures.up c.pass_to.ensures.all more stops.0 stops.1

pub transactions-preserved : goal.transactions-preserved
transactions-preserved c = record {
  capacity = let kept = c.drop_first.ensures.capacity in let inv = c.transactions.invariant.capacity in omega (arith, kept, inv);
  ring = search rules;
  onward = λ limit ends low high.
      let on = c.transactions.invariant.onward limit ends low high in
      let is = rw c.in-Some.is at c.first_of.ensures in
      let is_left = is ∙ ap (λ l. c.in-Some.next ∷ l) (sym c.drop_first.ensures.items) in
      let more = c.pass_to.ensures.high limit on.high (first_end c.transactions.done.end limit c.in-Some.next _ c.transactions.rung.items is on.ends) in
      onward_next _ limit _ _ _ c.transactions.passed c.pass_to.new.passed c.transactions.done c.in-Some.next c.transactions.rung.items _ on is_left c.pass_to.ensures.up c.pass_to.ensures.all more (c.pass_to.ensures.yes (search rules));
}
