use Rattle.std.proofs.Common.{◌≡◌, ◌<◌, length, set, Ok, sym, refl, ap, subst, ◌∙◌, arith}
use Rattle.std.proofs.lemmas.Bool.{false≢true}
use Rattle.mq_blocks.specs.Drive.{PortState}
use Rattle.mq_ledger.specs.State.{State, port_at}
use Rattle.mq_core.specs.Events.{MayClear}
use Rattle.mq_core.specs.Machine.{Clear}
use Rattle.mq_core.specs.View.{state_of}
use Rattle.mq_core.proofs.MachineLifts.{Told, happened, same_port, answer_at}
use Rattle.mq_core.proofs.MachineCore.{core_machine}
use Rattle.mq_core.proofs.EventsTellings.{may_clear, is_clear}
use Rattle.mq_core.proofs.machine.Core.clear.Goals as goal
use Rattle.mq_core.proofs.machine.Core.clear.Goals.{After-index, Else-at-len, Else-not-is_clear}

own : (c : Else-at-len) → c.args.queue < c.self.inside.ledger.geometry.queues
own c = omega (arith, c.self.invariant.facts.ports, c.queue.view_is)

head_is : (c : After-index) → c.index.result.now.head ≡ (port_at c.self.inside.ports.items c.args.queue).head
head_is c =
    let within : c.queue.inside.0 < length c.self.inside.ports.items = omega arith in
    ap (λ (p : PortState). p.head) (same_port c.self.inside.ports.items c.args.queue c.queue.inside.0 c.index.result.now within c.queue.view_is c.index.ensures)

told : (c : Else-not-is_clear) → Told core_machine (Clear c.args.queue c.args.low) c.self.inside.ledger.front (state_of c.self.inside) (record (state_of c.self.inside) { marks = set c.self.inside.marks.items c.queue.inside.0 c.args.low }) (Ok tt)
told c =
    let i = c.self.inside in
    let s = state_of i in
    let may = may_clear i.ledger s.ports s.root s.marks s.writing s.acknowledged c.self.invariant c.args.queue c.args.low c.head-head.result (own (goal.at.Else-not-is_clear c).Else-at-len) (c.head-head.ensures ∙ head_is (goal.at.Else-not-is_clear c).After-index) (c.is_clear.ensures.0 c.if-not-is_clear.false) in
    happened core_machine (Clear c.args.queue c.args.low) i.ledger.front s _ c.self.invariant may (λ j. record s { marks = set s.marks (c.queue.view_is j) c.args.low }) refl

pub returns-then-not-is_clear : goal.returns-then-not-is_clear
returns-then-not-is_clear c =
    let i = c.self.inside in
    let s = state_of i in (
      refl,
      λ may. false≢true (sym c.if-not-is_clear.true ∙ c.is_clear.ensures.1 (is_clear i.ledger s.ports s.root s.marks s.writing s.acknowledged c.self.invariant c.args.queue c.args.low c.head-head.result (c.head-head.ensures ∙ head_is (goal.at.returns-then-not-is_clear c).After-index) (subst (λ (t : State). MayClear t c.args.queue c.args.low) (sym c.self.view_is) may))),
      refl,
    )

pub invariant_of-self : goal.invariant_of-self
invariant_of-self c = (told (goal.at.invariant_of-self c).Else-not-is_clear).held

pub returns : goal.returns
returns c = answer_at c.self.view_is (told (goal.at.returns c).Else-not-is_clear)
