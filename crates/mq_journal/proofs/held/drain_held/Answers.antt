use Rattle.std.proofs.Common.{refl}
use Rattle.std.specs.Prelude.{Ok, Err}
use Rattle.mq_turns.specs.AtDesk.{view, start_of}
use Rattle.mq_journal.proofs.LawsInHand.{holds_drained, rests}
use Rattle.mq_journal.proofs.NumbersMarking.{side_known}
use Rattle.mq_journal.proofs.DrainingRefusing.{shows_refusal}
use Rattle.mq_journal.proofs.held.drain_held.Goals as goal

pub returns-in-Ok-clause-side : goal.returns-in-Ok-clause-side
returns-in-Ok-clause-side g c =
    let s = c.args.side.now in
    let e = c.in-Ok.ensures in
    let seen = c.requires.known in
    holds_drained g.P.Port.state g.P.Port.faults g.G.Groups.group s c.drain.new.self e.stays e.counts e.told e.stored (Ok c.in-Ok.field-0) e.drains (start_of c.args.desk.now) s.pmr.queue (view c.args.chair.now) seen.0 seen.1 c.requires.side

pub returns-in-Ok-clause-parts : goal.returns-in-Ok-clause-parts
returns-in-Ok-clause-parts g c =
    let e = c.in-Ok.ensures in
    record { queue = e.drains.queue; geometry = e.drains.geometry; stored = e.stored }

pub returns-in-Ok-clause-rests : goal.returns-in-Ok-clause-rests
returns-in-Ok-clause-rests g c =
    let state = g.P.Port.state in
    let faults = g.P.Port.faults in
    let group = g.G.Groups.group in
    let s = c.args.side.now in
    let e = c.in-Ok.ensures in
    let seen = c.requires.known in
    let is = side_known state faults group (start_of c.args.desk.now) s.pmr.queue s (view c.args.chair.now) c.requires.at.1 c.requires.side seen.0 seen.1 in
    rests state faults group s c.drain.new.self e.stays e.counts e.told e.stored s.pmr.queue seen.0 seen.1.ok is c.in-Ok.field-0 e.drains e.whole

pub returns-in-Ok-clause-drained : goal.returns-in-Ok-clause-drained
returns-in-Ok-clause-drained g c =
    let e = c.in-Ok.ensures in
    record { result = Ok c.in-Ok.field-0; drains = e.drains; cause = e.cause; is = refl }

pub returns-in-Err-clause-side : goal.returns-in-Err-clause-side
returns-in-Err-clause-side g c =
    let s = c.args.side.now in
    let e = c.in-Err.ensures in
    let seen = c.requires.known in
    holds_drained g.P.Port.state g.P.Port.faults g.G.Groups.group s c.drain.new.self e.stays e.counts e.told e.stored (Err c.in-Err.cause) e.drains (start_of c.args.desk.now) s.pmr.queue (view c.args.chair.now) seen.0 seen.1 c.requires.side

pub returns-in-Err-clause-parts : goal.returns-in-Err-clause-parts
returns-in-Err-clause-parts g c =
    let e = c.in-Err.ensures in
    record { queue = e.drains.queue; geometry = e.drains.geometry; stored = e.stored }

pub returns-in-Err-clause-drained : goal.returns-in-Err-clause-drained
returns-in-Err-clause-drained g c =
    let e = c.in-Err.ensures in
    record { result = Err c.in-Err.cause; drains = e.drains; cause = e.cause; is = refl }

pub returns-in-Err-clause-shows : goal.returns-in-Err-clause-shows
returns-in-Err-clause-shows g c = λ K sees.
    let state = g.P.Port.state in
    let faults = g.P.Port.faults in
    let group = g.G.Groups.group in
    let s = c.args.side.now in
    let e = c.in-Err.ensures in
    let is = side_known state faults group (start_of c.args.desk.now) s.pmr.queue s (view c.args.chair.now) c.requires.at.1 c.requires.side K sees in
    shows_refusal state faults group s.pmr.queue K s c.drain.new.self sees.ok is e.stays e.counts e.told e.stored c.in-Err.cause e.drains
