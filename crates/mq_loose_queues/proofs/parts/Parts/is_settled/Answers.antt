use Rattle.std.proofs.Common.{◌≡◌, Bool, true, false, length, sym, ap, ◌∙◌, inl, inr, arith}
use Rattle.std.proofs.lemmas.Bool.{cases_Bool}
use Rattle.mq_blocks.specs.Drive.{PortState}
use Rattle.mq_ledger.specs.State.{is_done}
use Rattle.mq_loose_order.specs.Dependence.{closure}
use Rattle.mq_loose_order.proofs.Closed.{closure-high, closure-low}
use Rattle.mq_loose_queues.specs.Queues.{parts_state, ports_of}
use Rattle.mq_loose_queues.proofs.parts.Parts.is_settled.Goals as goal

not_true : (b : Bool) → (b ≡ true → ⊥) → false ≡ b
not_true b never = elim (cases_Bool b) [
  | inl is ↦ absurd (never is)
  | inr is ↦ sym is
]

pub returns-then-number-base : goal.returns-then-number-base
returns-then-number-base g c = λ s h j.
    let v = parts_state g.P.Port.state g.P.Port.faults c.args.self.now in
    let word = c.base-base.ensures ∙ (ap (λ (p : PortState). p.base) j.root_is ∙ j.start.base) in
    sym (closure-low (is_done s.starts (ports_of v)) s.base h c.args.number j.log.numbers (omega (arith, word, c.number.view_is, c.base.view_is, c.if-number-base.true)))

pub returns-in-None : goal.returns-in-None
returns-in-None g c = λ s h j.
    let v = parts_state g.P.Port.state g.P.Port.faults c.args.self.now in
    let word = c.base-base.ensures ∙ (ap (λ (p : PortState). p.base) j.root_is ∙ j.start.base) in
    let past = c.in-None.ensures.lookup.3 in
    let count = ap length c.deref.ensures.value in
    let flags = j.flags.whole in
    not_true (closure (is_done s.starts (ports_of v)) s.base h c.args.number) (λ is.
    let high = closure-high (is_done s.starts (ports_of v)) s.base h c.args.number j.log.numbers is in
    absurd (omega (arith, word, c.number.view_is, c.base.view_is, past, count, flags, high, c.if-number-base.false)))
