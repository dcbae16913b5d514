use Rattle.std.proofs.Common.{◌≡◌, ◌∷◌, true, reverse, Ok, refl, ap, sym, ◌∙◌}
use Rattle.mq_ledger.specs.State.{State}
use Rattle.mq_loose.specs.Guards.{settled}
use Rattle.mq_loose.specs.Runs.{Acknowledge}
use Rattle.mq_loose.specs.View.{state_of}
use Rattle.mq_core.proofs.MachineLifts.{Told, happened, answer_at}
use Rattle.mq_core.proofs.EventsTellings.{reverse_push}
use Rattle.mq_loose.proofs.Machines.{loose_machine}
use Rattle.mq_loose.proofs.machine.LooseCore.acknowledge.Goals as goal
use Rattle.mq_loose.proofs.machine.LooseCore.acknowledge.Goals.{In_ok-push}

told : (c : In_ok-push) → Told loose_machine (Acknowledge c.args.number) c.self.inside.ledger.front (state_of c.self.inside) (record (state_of c.self.inside) { acknowledged = reverse c.push.new.self.items }) (Ok tt)
told c =
    let s = state_of c.self.inside in
    let n = c.args.number in
    let may : settled s n ≡ true = ap (λ (t : State). settled t n) c.self.view_is ∙ sym c.in_ok-is_settled.ensures ∙ c.if-not-branch.false in
    let more : reverse c.push.new.self.items ≡ n ∷ reverse c.self.inside.acknowledged.items = ap reverse c.in_ok-push.ensures.items ∙ reverse_push c.self.inside.acknowledged.items n in
    happened loose_machine (Acknowledge n) c.self.inside.ledger.front s _ c.self.invariant.held may (λ i. record s { acknowledged = more i }) refl

pub invariant_of-self-2 : goal.invariant_of-self-2
invariant_of-self-2 c = record { held = (told c).held; rows = c.self.invariant.rows }

pub returns : goal.returns
returns c = answer_at c.self.view_is (told c)
