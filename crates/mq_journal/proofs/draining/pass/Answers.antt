use Rattle.std.proofs.Common.{◌≡◌, ℕ, ◌+◌, ◌<◌, true, length, sym, refl, ap, subst, ◌∙◌, arith}
use Rattle.std.proofs.lemmas.Bool.{eq-eqb}
use Rattle.mq_desk_laws.specs.Rule.{IsSide}
use Rattle.mq_desk_laws.proofs.Meaning.{laws}
use Rattle.mq_turns.specs.AtDesk.{view, start_of}
use Rattle.mq_turns.specs.Chairs.{giving}
use Rattle.mq_turns.specs.Desk.{slot_of, turn_at}
use Rattle.mq_turns.specs.Lists.{times}
use Rattle.mq_turns.specs.Marks.{claim_of}
use Rattle.mq_turns.specs.Meaning.{claimed, newest}
use Rattle.mq_turns.specs.Words.{after_clear, same_turn}
use Rattle.mq_turns.specs.declared.turn.Item.TheVariants as item
use Rattle.mq_turns.specs.declared.turn.Turn.TheVariants.{Side}
use Rattle.mq_turns.proofs.DeskSeen.{opening_seen, stands_renewed}
use Rattle.mq_turns.proofs.DeskTurns.{times_refreshed}
use Rattle.mq_turns.proofs.DeskSlots.{turn_at_slot}
use Rattle.mq_journal.specs.Numbers.{machine, values}
use Rattle.mq_journal.proofs.NumbersMarking.{may_mark}
use Rattle.mq_journal.proofs.draining.pass.Goals as goal

pub clear-requires-clause-may : goal.clear-requires-clause-may
clear-requires-clause-may g c = may_mark g.P.Port.state g.P.Port.faults g.G.Groups.group c.queue-queue.result c.args.low (view c.args.chair.now)

pub give_back-requires-clause-holds : goal.give_back-requires-clause-holds
give_back-requires-clause-holds g c =
    let o = start_of c.args.desk.now in
    let q = c.args.side.pmr.queue in
    let v = view c.args.chair.now in
    let cleared = c.clear.ensures.cleared in
    let qr = c.queue-queue.result in
    let L = claimed (claim_of qr c.args.low (newest cleared.0)) cleared.0 in
    let same = ap (λ w. times (slot_of o (Side q)) w.held) cleared.1 ∙ times_refreshed (λ k. same_turn (Side qr) (turn_at L.opening k)) L (slot_of o (Side q)) v.held in
    let holds = c.requires.holds in
    let there : 0 < times (slot_of o (Side q)) (view c.clear.new.chair).held = omega arith in
    subst (λ z. 0 < times (length o.pages + z) (view c.clear.new.chair).held) (sym c.queue-queue.ensures) there

pub give_back-requires-clause-stands : goal.give_back-requires-clause-stands
give_back-requires-clause-stands g c = λ K sees.
    let state = g.P.Port.state in
    let faults = g.P.Port.faults in
    let group = g.G.Groups.group in
    let μ = machine state faults group in
    let o = start_of c.args.desk.now in
    let s = c.args.side in
    let q = s.pmr.queue in
    let low = c.args.low in
    let v = view c.args.chair.now in
    let cleared = c.clear.ensures.cleared in
    let K1 = cleared.0 in
    let is = subst (λ z. view c.clear.new.chair ≡ after_clear z low K1 v) c.queue-queue.ensures cleared.1 in
    let L = claimed (claim_of q low (newest K1)) K1 in
    let slot = slot_of o (Side q) in
    let start = opening_seen μ o K1 v c.requires.at.1 cleared.2 in
    let there = turn_at_slot o (Side q) c.requires.turn in
    let mine : same_turn (Side q) (turn_at K1.opening slot) ≡ true = ap (λ z. same_turn (Side q) (turn_at z slot)) start ∙ (ap (same_turn (Side q)) there ∙ eq-eqb q q refl) in
    let now = opening_seen μ o K (view c.clear.new.chair) (ap (λ w. w.opening) is ∙ c.requires.at.1) sees in
    let known = stands_renewed {M = ℕ} μ (laws (values state faults group) group) (λ k. same_turn (Side q) (turn_at L.opening k)) L K v (view c.clear.new.chair) (Side q) slot (item.Side s) (ap (λ w. w.held) is) mine c.requires.holds (ap (λ z. turn_at z slot) now ∙ there) sees (c.requires.shows K1 cleared.2) in
    subst (λ z. IsSide (values state faults group) group z K s) (sym c.queue-queue.ensures) known

pub returns-clause-passed : goal.returns-clause-passed
returns-clause-passed g c =
    let o = start_of c.args.desk.now in
    let cleared = c.clear.ensures.cleared in
    let is = subst (λ z. view c.clear.new.chair ≡ after_clear z c.args.low cleared.0 (view c.args.chair.now)) c.queue-queue.ensures cleared.1 in
    record { known = cleared.0; sees = cleared.2; is = c.give_back.ensures.gave ∙ (λ i. giving (length o.pages + c.queue-queue.ensures i) (is i)) }
