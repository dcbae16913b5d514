use Rattle.std.proofs.Common.{◌≡◌, ℕ, ◌+◌, ◌<◌, true, length, sym, refl, ap, subst, ◌∙◌, arith}
use Rattle.std.proofs.lemmas.Bool.{eq-eqb}
use Rattle.mq_desk_laws.specs.Rule.{IsSide}
use Rattle.mq_desk_laws.proofs.RuleTelling.{ok_charged}
use Rattle.mq_desk_laws.proofs.Meaning.{laws}
use Rattle.mq_turns.specs.AtDesk.{view, start_of}
use Rattle.mq_turns.specs.Chairs.{giving}
use Rattle.mq_turns.specs.Desk.{slot_of, turn_at}
use Rattle.mq_turns.specs.Lists.{times}
use Rattle.mq_turns.specs.Meaning.{charged}
use Rattle.mq_turns.specs.Words.{after_notice, same_turn}
use Rattle.mq_turns.specs.declared.rule.Notice.TheVariants as notice
use Rattle.mq_turns.specs.declared.turn.Item.TheVariants as item
use Rattle.mq_turns.specs.declared.turn.Turn.TheVariants.{Root, Side}
use Rattle.mq_turns.proofs.DeskSeen.{opening_seen, stands_renewed}
use Rattle.mq_turns.proofs.DeskTurns.{times_refreshed}
use Rattle.mq_turns.proofs.DeskSlots.{turn_at_slot}
use Rattle.mq_journal.specs.Numbers.{Start, machine, reported, values}
use Rattle.mq_journal.proofs.reporting.report_side.Goals as goal

pub charge-requires-clause-may : goal.charge-requires-clause-may
charge-requires-clause-may g c = λ K sees.
    let state = g.P.Port.state in
    let faults = g.P.Port.faults in
    let group = g.G.Groups.group in
    let o = start_of c.args.desk.now in
    let v = view c.args.chair.now in
    let q = c.args.side.pmr.queue in
    let qr = c.queue-queue.result in
    let own : q ≡ qr = sym c.queue-queue.ensures in
    let start : o ≡ K.opening = sym (opening_seen (machine state faults group) o K v c.requires.at.1 sees) in
    let turn : qr < length K.opening.sides = subst (λ (z : ℕ × Start g.row.P.Denot g.row.G-Entry.Denot g.P.Port). z.0 < length z.1.sides) (λ i. (own i, start i)) c.requires.turn in
    let holds : 0 < times (slot_of K.opening (Side qr)) v.held = subst (λ (z : ℕ × Start g.row.P.Denot g.row.G-Entry.Denot g.P.Port). 0 < times (slot_of z.1 (Side z.0)) v.held) (λ i. (own i, start i)) c.requires.holds in
    (ok_charged (values state faults group) group (reported qr c.args.report) K sees.ok (turn, λ e. absurd (side_root qr e)), holds)
  where
    side_root : (q : ℕ) → Side q ≡ Root → ⊥
    side_root q e = cc

pub give_back-requires-clause-holds : goal.give_back-requires-clause-holds
give_back-requires-clause-holds g c =
    let o = start_of c.args.desk.now in
    let q = c.args.side.pmr.queue in
    let v = view c.args.chair.now in
    let noted = c.charge.ensures.noted in
    let qr = c.queue-queue.result in
    let L = charged (reported qr c.args.report) noted.0 in
    let same = ap (λ w. times (slot_of o (Side q)) w.held) noted.1 ∙ times_refreshed (λ k. same_turn (Side qr) (turn_at L.opening k)) L (slot_of o (Side q)) v.held in
    let holds = c.requires.holds in
    let there : 0 < times (slot_of o (Side q)) (view c.charge.new.chair).held = omega arith in
    subst (λ z. 0 < times (length o.pages + z) (view c.charge.new.chair).held) (sym c.queue-queue.ensures) there

pub give_back-requires-clause-stands : goal.give_back-requires-clause-stands
give_back-requires-clause-stands g c = λ K sees.
    let state = g.P.Port.state in
    let faults = g.P.Port.faults in
    let group = g.G.Groups.group in
    let μ = machine state faults group in
    let o = start_of c.args.desk.now in
    let s = c.args.side in
    let q = s.pmr.queue in
    let v = view c.args.chair.now in
    let noted = c.charge.ensures.noted in
    let K1 = noted.0 in
    let is = subst (λ z. view c.charge.new.chair ≡ after_notice μ (notice.Charge (reported z c.args.report)) K1 v) c.queue-queue.ensures noted.1 in
    let L = charged (reported q c.args.report) K1 in
    let slot = slot_of o (Side q) in
    let start = opening_seen μ o K1 v c.requires.at.1 noted.2 in
    let there = turn_at_slot o (Side q) c.requires.turn in
    let mine : same_turn (Side q) (turn_at K1.opening slot) ≡ true = ap (λ z. same_turn (Side q) (turn_at z slot)) start ∙ (ap (same_turn (Side q)) there ∙ eq-eqb q q refl) in
    let now = opening_seen μ o K (view c.charge.new.chair) (ap (λ w. w.opening) is ∙ c.requires.at.1) sees in
    let known = stands_renewed {M = ℕ} μ (laws (values state faults group) group) (λ k. same_turn (Side q) (turn_at L.opening k)) L K v (view c.charge.new.chair) (Side q) slot (item.Side s) (ap (λ w. w.held) is) mine c.requires.holds (ap (λ z. turn_at z slot) now ∙ there) sees (c.requires.shows K1 noted.2) in
    subst (λ z. IsSide (values state faults group) group z K s) (sym c.queue-queue.ensures) known

pub returns-clause-reported : goal.returns-clause-reported
returns-clause-reported g c =
    let μ = machine g.P.Port.state g.P.Port.faults g.G.Groups.group in
    let o = start_of c.args.desk.now in
    let noted = c.charge.ensures.noted in
    let is = subst (λ z. view c.charge.new.chair ≡ after_notice μ (notice.Charge (reported z c.args.report)) noted.0 (view c.args.chair.now)) c.queue-queue.ensures noted.1 in
    record { known = noted.0; sees = noted.2; is = c.give_back.ensures.gave ∙ (λ i. giving (length o.pages + c.queue-queue.ensures i) (is i)) }
