use Rattle.std.proofs.Common.{sym, subst}
use Rattle.std.specs.Prelude.{Ok, Err}
use Rattle.mq_desk_laws.specs.Rule.{IsSide}
use Rattle.mq_turns.specs.AtDesk.{view, start_of}
use Rattle.mq_turns.specs.Marks.{claim_of}
use Rattle.mq_turns.specs.Meaning.{charged, claimed, newest}
use Rattle.mq_journal.specs.Draining.{IsPassed, report_of}
use Rattle.mq_journal.specs.Numbers.{reported, values}
use Rattle.mq_journal.proofs.NumbersMarking.{side_known}
use Rattle.mq_journal.proofs.DrainingRefusing.{shows_all, shows_refusal}
use Rattle.mq_journal.proofs.Settled.{shows-done}
use Rattle.mq_journal.proofs.settling.settle_side.Goals as goal

pub pass-requires-clause-shows : goal.pass-requires-clause-shows
pass-requires-clause-shows g c = λ K sees.
    let state = g.P.Port.state in
    let faults = g.P.Port.faults in
    let group = g.G.Groups.group in
    let s = c.args.side in
    let u = c.drain.new.self in
    let e = c.in-Ok.ensures in
    let is = side_known state faults group (start_of c.args.desk.now) s.pmr.queue s (view c.args.chair.now) c.requires.at.1 c.requires.side K sees in
    subst (λ z. IsSide (values state faults group) group z (claimed (claim_of z 18446744073709551615 (newest K)) K) u) (sym e.drains.queue)
    (shows_all state faults group s.pmr.queue K s u sees.ok is e.stays e.counts e.told e.stored c.in-Ok.done 18446744073709551615 e.drains e.whole)

pub report_side-requires-clause-shows : goal.report_side-requires-clause-shows
report_side-requires-clause-shows g c = λ K sees.
    let state = g.P.Port.state in
    let faults = g.P.Port.faults in
    let group = g.G.Groups.group in
    let s = c.args.side in
    let u = c.drain.new.self in
    let e = c.in-Err.ensures in
    let is = side_known state faults group (start_of c.args.desk.now) s.pmr.queue s (view c.args.chair.now) c.requires.at.1 c.requires.side K sees in
    let known = subst (λ z. IsSide (values state faults group) group z (charged (reported z (report_of c.in-Err.cause)) K) u) (sym e.drains.queue)
    (shows_refusal state faults group s.pmr.queue K s u sees.ok is e.stays e.counts e.told e.stored c.in-Err.cause e.drains) in
    subst (λ r. IsSide (values state faults group) group u.pmr.queue (charged (reported u.pmr.queue r) K) u) (sym c.report_of.ensures) known

pub returns-in-Ok-clause-settled : goal.returns-in-Ok-clause-settled
returns-in-Ok-clause-settled g c =
    let state = g.P.Port.state in
    let faults = g.P.Port.faults in
    let group = g.G.Groups.group in
    let s = c.args.side in
    let u = c.drain.new.self in
    let e = c.in-Ok.ensures in
    record {
      after = u;
      drains = e.drains;
      cause = e.cause;
      passed = subst (λ z. IsPassed state faults group (start_of c.args.desk.now) z 18446744073709551615 (view c.args.chair.now) (view c.pass.new.chair)) e.drains.queue c.pass.ensures.passed;
      done = λ K sees.
          let is = side_known state faults group (start_of c.args.desk.now) s.pmr.queue s (view c.args.chair.now) c.requires.at.1 c.requires.side K sees in
          shows-done state faults group s.pmr.queue c.in-Ok.done u K e.drains.ends.2
          (shows_all state faults group s.pmr.queue K s u sees.ok is e.stays e.counts e.told e.stored c.in-Ok.done 18446744073709551615 e.drains e.whole);
    }

pub returns-in-Err-clause-settled : goal.returns-in-Err-clause-settled
returns-in-Err-clause-settled g c =
    let e = c.in-Err.ensures in
    record { after = c.drain.new.self; drains = e.drains; cause = e.cause; passed = tt; done = tt }
