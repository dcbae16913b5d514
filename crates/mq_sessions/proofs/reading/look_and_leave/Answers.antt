use Rattle.mq_turns.specs.AtDesk.{start_of, view}
use Rattle.mq_journal.specs.Machine.{journal}
use Rattle.mq_sessions.proofs.reading.look_and_leave.Goals as goal
use Rattle.mq_sessions.proofs.PagesBeside.{looked-left}

pub returns-clause-looked : goal.returns-clause-looked
returns-clause-looked g c =
    let look = c.look-at.ensures in
    record {
      known = look.looked.0;
      number = look.looked.2;
      above = look.below.0;
      is = looked-left (journal g.P.Port.state g.P.Port.faults g.G.Groups.group) (start_of c.args.desk.now) c.args.held.now.cells (view c.args.chair.now) (view c.look-at.new.chair) (view c.give_back_pages.new.chair) look.looked.0 c.args.entry.now c.look-at.result c.requires.pages look.looked.1 look.looked.2 c.give_back_pages.ensures.gave;
    }
