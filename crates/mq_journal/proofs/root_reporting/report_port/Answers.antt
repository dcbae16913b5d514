use Rattle.std.proofs.Common.{◌≡◌, ◌<◌, true, length, sym, ap, subst, ◌∙◌, arith}
use Rattle.mq_desk_laws.specs.Rule.{IsOfPort}
use Rattle.mq_desk_laws.proofs.Meaning.{laws}
use Rattle.mq_desk_laws.proofs.RuleTelling.{ok_charged}
use Rattle.mq_journal.specs.Numbers.{machine, values}
use Rattle.mq_turns.specs.AtDesk.{view, start_of}
use Rattle.mq_turns.specs.Chairs.{giving}
use Rattle.mq_turns.specs.Desk.{slot_of, turn_at}
use Rattle.mq_turns.specs.Lists.{times}
use Rattle.mq_turns.specs.Meaning.{charged}
use Rattle.mq_turns.specs.Words.{after_notice, same_turn}
use Rattle.mq_turns.specs.declared.rule.Notice.TheVariants as notice
use Rattle.mq_turns.proofs.DeskSeen.{opening_seen, stands_renewed}
use Rattle.mq_turns.proofs.DeskSlots.{turn_at_slot}
use Rattle.mq_turns.proofs.DeskTurns.{times_refreshed}
use Rattle.mq_turns.proofs.WordsChanges.{same_turn-same}
use Rattle.mq_journal.specs.Ports.{charge_of}
use Rattle.mq_journal.proofs.PagesHomeViews.{is_turn}
use Rattle.mq_journal.proofs.root_reporting.report_port.Goals as goal

pub charge-requires-clause-may : goal.charge-requires-clause-may
charge-requires-clause-may g c = λ K sees.
    let state = g.P.Port.state in
    let faults = g.P.Port.faults in
    let group = g.G.Groups.group in
    let o = start_of c.args.desk.now in
    let v = view c.args.chair.now in
    let t = c.args.turn.now in
    let r = c.report_of-report.result in
    let start : o ≡ K.opening = sym (opening_seen (machine state faults group) o K v c.requires.at.1 sees) in
    let port = subst (λ y. IsOfPort (length o.sides) (record { port = t; report = y })) (sym c.report_of-report.ensures) c.requires.of_port in (
      ok_charged (values state faults group) group (record { port = t; report = r }) K sees.ok (subst (λ s. IsOfPort (length s.sides) (record { port = t; report = r })) start port),
      subst (λ s. 0 < times (slot_of s t) v.held) start c.requires.holds,
    )

pub give_back-requires-clause-turn : goal.give_back-requires-clause-turn
give_back-requires-clause-turn g c = is_turn (start_of c.args.desk.now) c.args.turn.now c.requires.of_port.0

pub give_back-requires-clause-holds : goal.give_back-requires-clause-holds
give_back-requires-clause-holds g c =
    let v = view c.args.chair.now in
    let t = c.args.turn.now in
    let slot = slot_of (start_of c.args.desk.now) t in
    let noted = c.charge.ensures.noted in
    let L = charged (record { port = t; report = c.report_of-report.result }) noted.0 in
    let same = ap (λ w. times slot w.held) noted.1 ∙ times_refreshed (λ k. same_turn t (turn_at L.opening k)) L slot v.held in
    let holds = c.requires.holds in
    omega arith

pub give_back-requires-clause-stands : goal.give_back-requires-clause-stands
give_back-requires-clause-stands g c = λ K sees.
    let state = g.P.Port.state in
    let faults = g.P.Port.faults in
    let group = g.G.Groups.group in
    let μ = machine state faults group in
    let o = start_of c.args.desk.now in
    let v = view c.args.chair.now in
    let w = view c.charge.new.chair in
    let t = c.args.turn.now in
    let slot = slot_of o t in
    let noted = c.charge.ensures.noted in
    let is = subst (λ y. w ≡ after_notice μ (notice.Charge (record { port = t; report = y })) noted.0 v) c.report_of-report.ensures noted.1 in
    let L = charged (charge_of t c.args.cause.now) noted.0 in
    let start = opening_seen μ o noted.0 v c.requires.at.1 noted.2 in
    let there = turn_at_slot o t (is_turn o t c.requires.of_port.0) in
    let mine : same_turn t (turn_at noted.0.opening slot) ≡ true = ap (λ z. same_turn t (turn_at z slot)) start ∙ (ap (same_turn t) there ∙ same_turn-same t) in
    let now = opening_seen μ o K w (ap (λ y. y.opening) is ∙ c.requires.at.1) sees in
    stands_renewed μ (laws (values state faults group) group) (λ k. same_turn t (turn_at L.opening k)) L K v w t slot c.args.port (ap (λ y. y.held) is) mine c.requires.holds (ap (λ z. turn_at z slot) now ∙ there) sees (c.requires.shows noted.0 noted.2)

pub returns-clause-reported : goal.returns-clause-reported
returns-clause-reported g c =
    let μ = machine g.P.Port.state g.P.Port.faults g.G.Groups.group in
    let t = c.args.turn.now in
    let noted = c.charge.ensures.noted in
    let is = subst (λ y. view c.charge.new.chair ≡ after_notice μ (notice.Charge (record { port = t; report = y })) noted.0 (view c.args.chair.now)) c.report_of-report.ensures noted.1 in
    record { known = noted.0; sees = noted.2; is = c.give_back.ensures.gave ∙ ap (giving (slot_of (start_of c.args.desk.now) t)) is }
