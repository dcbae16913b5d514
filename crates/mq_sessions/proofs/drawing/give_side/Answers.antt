use Rattle.mq_turns.specs.AtDesk.{start_of, view}
use Rattle.mq_sessions.proofs.DrawingSent.{pages-given, pages-reported}
use Rattle.mq_sessions.proofs.drawing.give_side.Goals as goal

pub returns-in-Drive-clause-pages : goal.returns-in-Drive-clause-pages
returns-in-Drive-clause-pages g c =
    pages-reported g.P.Port.state g.P.Port.faults g.G.Groups.group (start_of c.args.desk.now) c.args.side.pmr.queue c.report_of.result c.args.held.now.cells c.args.side (view c.args.chair.now) (view c.report_side.new.chair) c.requires.at.1 c.requires.holds c.report_side.ensures.reported

pub returns-in-Memory-clause-pages : goal.returns-in-Memory-clause-pages
returns-in-Memory-clause-pages g c =
    pages-given g.P.Port.state g.P.Port.faults g.G.Groups.group (start_of c.args.desk.now) c.args.side.pmr.queue c.args.held.now.cells c.args.side (view c.args.chair.now) (view c.give_back_side.new.chair) c.requires.holds c.give_back_side.ensures.gave

pub returns-in-Area-clause-pages : goal.returns-in-Area-clause-pages
returns-in-Area-clause-pages g c =
    pages-given g.P.Port.state g.P.Port.faults g.G.Groups.group (start_of c.args.desk.now) c.args.side.pmr.queue c.args.held.now.cells c.args.side (view c.args.chair.now) (view c.give_back_side-in-Area.new.chair) c.requires.holds c.give_back_side-in-Area.ensures.gave
