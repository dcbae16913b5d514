use Rattle.std.proofs.Common.{◌≡◌, ◌+◌, length, sym, ap, subst, ◌∙◌, inl, inr, arith}
use Rattle.std.proofs.lemmas.Bool.{cases_Bool}
use Rattle.mq_ledger.specs.State.{State, is_done}
use Rattle.mq_loose_order.proofs.Closed.{closure-high, closure-low}
use Rattle.mq_loose.specs.Guards.{settled}
use Rattle.mq_loose.specs.Rows.{AreRows}
use Rattle.mq_loose.proofs.RowLists.{rows_are}
use Rattle.mq_loose.proofs.machine.LooseCore.is_settled.Goals as goal

pub returns-then-number-base : goal.returns-then-number-base
returns-then-number-base c =
    let s = c.args.self.now in
    sym (closure-low (is_done s.starts s.ports) s.base s.history c.args.number c.base-base.ensures.numbers (omega (arith, c.base-base.ensures.is, c.number.view_is, c.if-number-base.true)))

pub returns-then-number-last : goal.returns-then-number-last
returns-then-number-last c =
    let s = c.args.self.now in
    let last : c.last.result ≡ s.base + length s.history = c.last.ensures.is ∙ ap (λ (t : State). t.base + length t.history) c.self.view_is in
    elim (cases_Bool (settled s c.args.number)) [
      | inl some ↦ absurd (let h = closure-high (is_done s.starts s.ports) s.base s.history c.args.number c.base-base.ensures.numbers some in omega (arith, h, last, c.last-2.view_is, c.number.view_is, c.if-number-last.true))
      | inr none ↦ sym none
    ]

pub settled_flags-requires : goal.settled_flags-requires
settled_flags-requires c =
    let i = c.self.inside in
    let f = c.self.invariant.held.facts in
    let base : i.ledger.base ≡ c.base-base.result = ap (λ (t : State). t.base) c.self.view_is ∙ sym c.base-base.ensures.is in
    let rows = rows_are i.ledger.base i.ledger.starts i.ledger.history i.rows.items i.ledger.geometry.queues f.log.numbers (λ t ts at. (f.log.each t ts at).0.queue) c.self.invariant.rows in
    let queues : i.ledger.geometry.queues ≡ length c.deref-2.result.now = sym (ap length c.deref-2.ensures.value ∙ f.ports) in
    subst (λ n. AreRows c.base-base.result c.deref.result.now n) queues (subst (λ b. AreRows b c.deref.result.now i.ledger.geometry.queues) base (subst (λ rs. AreRows i.ledger.base rs i.ledger.geometry.queues) (sym c.deref.ensures.value) rows))
