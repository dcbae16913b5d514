use Rattle.std.proofs.Common.{ℕ, ◌<◌, sym, subst}
use Rattle.mq_desk_laws.specs.Rule.{IsSide}
use Rattle.mq_queue_side.specs.Commits.{items_of}
use Rattle.mq_turns.specs.AtDesk.{view, start_of}
use Rattle.mq_turns.specs.Desk.{slot_of}
use Rattle.mq_turns.specs.Meaning.{charged}
use Rattle.mq_turns.specs.declared.rule.Report.TheVariants as report
use Rattle.mq_turns.specs.declared.turn.Turn.TheVariants.{Side}
use Rattle.mq_journal.specs.Numbers.{HasNumbered, values}
use Rattle.mq_journal.proofs.NumbersHolding.{held_some, numbered_known}
use Rattle.mq_journal.proofs.NumbersReports.{side_reported}
use Rattle.mq_journal.proofs.Sent.{cut_backed, cut_side, sent_backed, sent_shows, sent_side}
use Rattle.mq_journal.proofs.sending.send.Goals as goal

pub send-requires-clause-queues : goal.send-requires-clause-queues
send-requires-clause-queues g c =
    let s = c.args.side in
    let v = view c.args.chair.now in
    let some = held_some (λ K. HasNumbered g.P.Port.state g.P.Port.faults g.G.Groups.group s.pmr.queue K s c.args.numbered) (slot_of (start_of c.args.desk.now) (Side s.pmr.queue)) v.held c.requires.side.holds c.requires.side.has in
    subst (λ z. s.pmr.queue < z.queues) (sym some.1.says.is.geometry) some.1.port.queue

pub send-requires-clause-none : goal.send-requires-clause-none
send-requires-clause-none g c =
    let s = c.args.side in
    let v = view c.args.chair.now in
    let some = held_some (λ K. HasNumbered g.P.Port.state g.P.Port.faults g.G.Groups.group s.pmr.queue K s c.args.numbered) (slot_of (start_of c.args.desk.now) (Side s.pmr.queue)) v.held c.requires.side.holds c.requires.side.has in
    some.1.says.ready.none

pub report_side-requires-clause-shows : goal.report_side-requires-clause-shows
report_side-requires-clause-shows g c = λ K sees.
    let state = g.P.Port.state in
    let faults = g.P.Port.faults in
    let group = g.G.Groups.group in
    let s = c.args.side in
    let u = c.send.new.self in
    let q = s.pmr.queue in
    let n = c.args.numbered in
    let e = c.in-Ok.ensures in
    let has = numbered_known state faults group (start_of c.args.desk.now) q s n (view c.args.chair.now) c.requires.at.1 c.requires.side K sees in
    let is = sent_side state faults group q K s u n sees.ok has e.stays e.counts e.told e.stored e.own (items_of s.pmr.geometry n) e.whole e.ok e.cause in
    let shows = sent_shows state faults group q K s u n sees.ok has e.stays e.counts e.told e.stored e.own e.whole in
    let backed = sent_backed state faults group q K s u n sees.ok has e.stays e.counts e.told e.stored e.own e.cause in
    let known = side_reported state faults group q K s u (report.Sent n.number) is shows has.charged backed in
    subst (λ (z : ℕ × ℕ). IsSide (values state faults group) group z.0 (charged (record { port = Side z.0; report = report.Sent z.1 }) K) u) (λ i. (sym e.own.1 i, sym e.answer i)) known

pub report_side-requires-in-Err-clause-shows : goal.report_side-requires-in-Err-clause-shows
report_side-requires-in-Err-clause-shows g c = λ K sees.
    let state = g.P.Port.state in
    let faults = g.P.Port.faults in
    let group = g.G.Groups.group in
    let s = c.args.side in
    let u = c.send.new.self in
    let q = s.pmr.queue in
    let n = c.args.numbered in
    let e = c.in-Err.ensures in
    let has = numbered_known state faults group (start_of c.args.desk.now) q s n (view c.args.chair.now) c.requires.at.1 c.requires.side K sees in
    let cut = cut_side state faults group q K s u n sees.ok has e.stays e.counts e.told e.stored e.own (items_of s.pmr.geometry n) e.off e.kept e.cause in
    let backed = cut_backed state faults group q K s u n sees.ok has e.stays e.counts e.told e.stored e.own e.cause in
    let known = side_reported state faults group q K s u report.Off cut tt has.charged backed in
    subst (λ z. IsSide (values state faults group) group z (charged (record { port = Side z; report = report.Off }) K) u) (sym e.own.1) known
