use Rattle.mq_turns.specs.AtDesk.{view, start_of}
use Rattle.mq_journal.proofs.RaisedAtRoot.{may_raise, off_refused, off_root, raised_root, stored_base}
use Rattle.mq_journal.proofs.root.raise_to.Goals as goal

pub raise-requires-clause-may : goal.raise-requires-clause-may
raise-requires-clause-may g c =
    let t = c.in-Root.ensures.took in
    may_raise g.P.Port.state g.P.Port.faults g.G.Groups.group (start_of c.args.desk.now) (view c.args.chair.now) (view c.take.new.chair) c.requires.at.1 c.requires.idle t.0 t.1 t.2 c.in-Root.root c.store.new.root t.3 c.args.base c.in-Ok.ensures.stands c.requires.base c.in-Ok.ensures.cause c.base-raised.result c.base-raised.ensures

pub give_back-requires-clause-stands : goal.give_back-requires-clause-stands
give_back-requires-clause-stands g c =
    let t = c.in-Root.ensures.took in
    let r = c.raise.ensures.raised in
    raised_root g.P.Port.state g.P.Port.faults g.G.Groups.group (start_of c.args.desk.now) (view c.args.chair.now) (view c.take.new.chair) c.requires.at.1 c.requires.idle t.0 t.1 t.2 c.in-Root.root c.store.new.root t.3 c.args.base c.in-Ok.ensures.stands c.requires.base c.in-Ok.ensures.cause c.base-raised.result c.base-raised.ensures r.0 (view c.raise.new.chair) r.1 r.2

pub report_port-requires-clause-shows : goal.report_port-requires-clause-shows
report_port-requires-clause-shows g c =
    let t = c.in-Root.ensures.took in
    off_root g.P.Port.state g.P.Port.faults g.G.Groups.group (start_of c.args.desk.now) (view c.args.chair.now) (view c.take.new.chair) c.requires.at.1 c.requires.idle t.0 t.1 t.2 c.in-Root.root c.store.new.root t.3 c.args.base c.in-Err.ensures.stands c.requires.base c.in-Err.ensures.cause

pub returns-in-Ok-clause-raised : goal.returns-in-Ok-clause-raised
returns-in-Ok-clause-raised g c =
    let t = c.in-Root.ensures.took in
    let r = c.raise.ensures.raised in
    stored_base g.P.Port.state g.P.Port.faults g.G.Groups.group (start_of c.args.desk.now) (view c.args.chair.now) (view c.take.new.chair) c.requires.at.1 c.requires.idle t.0 t.1 t.2 c.in-Root.root c.store.new.root t.3 c.args.base c.in-Ok.ensures.stands c.requires.base c.in-Ok.ensures.cause c.base-raised.result c.base-raised.ensures r.0 (view c.raise.new.chair) r.1 r.2 (view c.give_back.new.chair) c.give_back.ensures.gave c.in-Ok.ensures.raised

pub returns-in-Err-clause-refused : goal.returns-in-Err-clause-refused
returns-in-Err-clause-refused g c =
    let t = c.in-Root.ensures.took in
    off_refused g.P.Port.state g.P.Port.faults g.G.Groups.group (start_of c.args.desk.now) (view c.args.chair.now) (view c.take.new.chair) c.requires.at.1 c.requires.idle t.0 t.1 t.2 c.in-Root.root c.store.new.root t.3 c.args.base c.in-Err.ensures.stands c.requires.base c.in-Err.ensures.cause (view c.report_port.new.chair) c.report_port.ensures.reported
