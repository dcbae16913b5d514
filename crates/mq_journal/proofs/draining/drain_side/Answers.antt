use Rattle.std.proofs.Common.{refl, sym, subst}
use Rattle.std.specs.Prelude.{Ok, Err}
use Rattle.std.proofs.lemmas.Result.{on_ok_weaker}
use Rattle.mq_desk_laws.specs.Rule.{IsSide}
use Rattle.mq_turns.specs.AtDesk.{view, start_of}
use Rattle.mq_turns.specs.Marks.{claim_of}
use Rattle.mq_turns.specs.Meaning.{charged, claimed, newest}
use Rattle.mq_journal.specs.Draining.{IsPassed, mark_after, report_of}
use Rattle.mq_journal.specs.Numbers.{reported, values}
use Rattle.mq_journal.proofs.NumbersMarking.{side_known}
use Rattle.mq_journal.proofs.DrainingRefusing.{low_of, shows_all, shows_below, shows_refusal}
use Rattle.mq_journal.proofs.draining.drain_side.Goals as goal

pub pass-requires-clause-shows : goal.pass-requires-clause-shows
pass-requires-clause-shows g c = λ K sees.
    let state = g.P.Port.state in
    let faults = g.P.Port.faults in
    let group = g.G.Groups.group in
    let s = c.args.side in
    let u = c.drain.new.self in
    let e = c.in-Ok.ensures in
    let is = side_known state faults group (start_of c.args.desk.now) s.pmr.queue s (view c.args.chair.now) c.requires.at.1 c.requires.side K sees in
    subst (λ z. IsSide (values state faults group) group z (claimed (claim_of z 18446744073709551615 (newest K)) K) u) (sym e.drains.queue)
    (shows_all state faults group s.pmr.queue K s u sees.ok is e.stays e.counts e.told e.stored c.in-Ok.field-0 18446744073709551615 e.drains e.whole)

pub stop-requires-clause-low : goal.stop-requires-clause-low
stop-requires-clause-low g c = λ n named.
    let state = g.P.Port.state in
    let faults = g.P.Port.faults in
    let group = g.G.Groups.group in
    let s = c.args.side in
    let e = c.in-Err.ensures in
    let K = c.requires.known.0 in
    let sees = c.requires.known.1 in
    let is = side_known state faults group (start_of c.args.desk.now) s.pmr.queue s (view c.args.chair.now) c.requires.at.1 c.requires.side K sees in
    low_of state faults group s.pmr.queue K s c.drain.new.self sees.ok is e.stays e.counts e.told e.stored c.args.at n c.in-Err.cause e.drains named

pub stop-requires-clause-below : goal.stop-requires-clause-below
stop-requires-clause-below g c = λ n named K sees.
    let state = g.P.Port.state in
    let faults = g.P.Port.faults in
    let group = g.G.Groups.group in
    let s = c.args.side in
    let u = c.drain.new.self in
    let e = c.in-Err.ensures in
    let is = side_known state faults group (start_of c.args.desk.now) s.pmr.queue s (view c.args.chair.now) c.requires.at.1 c.requires.side K sees in
    subst (λ z. IsSide (values state faults group) group z (claimed (claim_of z n (newest K)) K) u) (sym e.drains.queue)
    (shows_below state faults group s.pmr.queue K s u sees.ok is e.stays e.counts e.told e.stored c.args.at n c.in-Err.cause e.drains named)

pub stop-requires-clause-shows : goal.stop-requires-clause-shows
stop-requires-clause-shows g c = λ named K sees.
    let state = g.P.Port.state in
    let faults = g.P.Port.faults in
    let group = g.G.Groups.group in
    let s = c.args.side in
    let u = c.drain.new.self in
    let e = c.in-Err.ensures in
    let is = side_known state faults group (start_of c.args.desk.now) s.pmr.queue s (view c.args.chair.now) c.requires.at.1 c.requires.side K sees in
    subst (λ z. IsSide (values state faults group) group z (charged (reported z (report_of c.in-Err.cause)) K) u) (sym e.drains.queue)
    (shows_refusal state faults group s.pmr.queue K s u sees.ok is e.stays e.counts e.told e.stored c.in-Err.cause e.drains)

pub returns-in-Ok-clause-answered : goal.returns-in-Ok-clause-answered
returns-in-Ok-clause-answered g c =
    let e = c.in-Ok.ensures in
    record {
      result = Ok c.in-Ok.field-0;
      after = c.drain.new.self;
      drains = e.drains;
      cause = e.cause;
      is = refl;
      low = c.requires.limit;
      passed = subst (λ z. IsPassed g.P.Port.state g.P.Port.faults g.G.Groups.group (start_of c.args.desk.now) z 18446744073709551615 (view c.args.chair.now) (view c.pass.new.chair)) e.drains.queue c.pass.ensures.passed;
    }

pub returns-in-Err-clause-answered : goal.returns-in-Err-clause-answered
returns-in-Err-clause-answered g c =
    let e = c.in-Err.ensures in
    record {
      result = Err c.in-Err.cause;
      after = c.drain.new.self;
      drains = e.drains;
      cause = e.cause;
      is = c.stop.ensures.answer;
      low = c.stop.ensures.low;
      passed = on_ok_weaker c.stop.result (λ p. subst (λ z. IsPassed g.P.Port.state g.P.Port.faults g.G.Groups.group (start_of c.args.desk.now) z (mark_after (Err c.in-Err.cause)) (view c.args.chair.now) (view c.stop.new.chair)) e.drains.queue p) c.stop.ensures.passed;
    }
