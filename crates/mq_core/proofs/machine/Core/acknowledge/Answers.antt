use Rattle.std.proofs.Common.{◌≡◌, ◌≤◌, ◌∷◌, reverse, Ok, refl, ap, ◌∙◌, arith}
use Rattle.mq_ledger.specs.State.{front_of}
use Rattle.mq_core.specs.Machine.{Acknowledge}
use Rattle.mq_core.specs.View.{state_of}
use Rattle.mq_core.proofs.MachineLifts.{Told, happened, answer_at}
use Rattle.mq_core.proofs.MachineCore.{core_machine}
use Rattle.mq_core.proofs.EventsTellings.{reverse_push}
use Rattle.mq_core.proofs.machine.Core.acknowledge.Goals as goal
use Rattle.mq_core.proofs.machine.Core.acknowledge.Goals.{In_ok-push}

told : (c : In_ok-push) → Told core_machine (Acknowledge c.args.number) c.self.inside.ledger.front (state_of c.self.inside) (record (state_of c.self.inside) { acknowledged = reverse c.push.new.self.items }) (Ok tt)
told c =
    let s = state_of c.self.inside in
    let may : c.args.number ≤ front_of s = omega (arith, c.self.invariant.front_is, c.number.view_is, c.front-2.view_is, c.front.ensures.is, c.if-number-front.false) in
    let more : reverse c.push.new.self.items ≡ c.args.number ∷ reverse c.self.inside.acknowledged.items = ap reverse c.in_ok-push.ensures.items ∙ reverse_push c.self.inside.acknowledged.items c.args.number in
    happened core_machine (Acknowledge c.args.number) c.self.inside.ledger.front s _ c.self.invariant may (λ i. record s { acknowledged = more i }) refl

pub invariant_of-self-2 : goal.invariant_of-self-2
invariant_of-self-2 c = (told c).held

pub returns : goal.returns
returns c = answer_at c.self.view_is (told c)
