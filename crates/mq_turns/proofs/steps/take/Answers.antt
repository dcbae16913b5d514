use Rattle.std.proofs.Common.{◌≡◌, ◌∷◌, [], subst}
use Rattle.mq_turns.specs.declared.rule.Known.{Known}
use Rattle.mq_turns.specs.Desk.{turn_at, Sees, Stands}
use Rattle.mq_turns.proofs.steps.take.Goals as goal

pub returns-in-Some-try_take-clause-took : goal.returns-in-Some-try_take-clause-took
returns-in-Some-try_take-clause-took g c =
    let T = λ (m : _). (K : Known _ _ _ _) × (c.try_take.new.place.me ≡ (record m.0 { hand = 0; held = (c.args.slot, K) ∷ m.0.held }, [])) × Sees g.M.Machine.meaning m.0 K × Stands g.M.Machine.meaning (turn_at K.opening c.args.slot) K c.in-Some-try_take.item in
    subst T c.loop.invariant.2 c.in-Some-try_take.ensures.some
