use Rattle.std.proofs.Common.{◌∙◌, ap}
use Rattle.mq_journal.specs.Numbers.{Seat}
use Rattle.mq_turns.specs.AtDesk.{start_of, view}
use Rattle.mq_sessions.specs.Committing.{reports_for}
use Rattle.mq_sessions.specs.Pages.{blocks_of}
use Rattle.mq_journal.specs.Machine.{journal}
use Rattle.mq_sessions.proofs.DrawingSent.{reports-left}
use Rattle.mq_sessions.proofs.drawing.give_up.Goals as goal
use Rattle.mq_sessions.proofs.PagesBeside.{given-empty}

pub returns-clause-idle : goal.returns-clause-idle
returns-clause-idle g c =
    ap (λ (x : Seat g.row.P.Denot g.row.G-Entry.Denot g.P.Port). x.held) c.give_back_pages.ensures.gave
    ∙ given-empty (journal g.P.Port.state g.P.Port.faults g.G.Groups.group) (start_of c.args.desk.now) c.args.held.now.cells (view c.give_side.new.chair) c.give_side.ensures.pages

pub returns-clause-reports : goal.returns-clause-reports
returns-clause-reports g c =
    let v = view c.args.chair.now in
    reports-left g.P.Port.state g.P.Port.faults g.G.Groups.group (blocks_of c.args.held.now.cells) (reports_for c.args.side.pmr.queue c.args.obstacle.now v.reading.charged) v (view c.give_side.new.chair) (view c.give_back_pages.new.chair) c.give_side.ensures.reports c.give_back_pages.ensures.gave
