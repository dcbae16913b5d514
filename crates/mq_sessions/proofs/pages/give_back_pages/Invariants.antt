use Rattle.std.proofs.Common.{◌≡◌, length}
use Rattle.mq_turns.specs.AtDesk.{AtDesk, start_of, view}
use Rattle.mq_sessions.proofs.PagesTaking.{HasGiven}
use Rattle.mq_sessions.proofs.pages.give_back_pages.Given as goal

abbrev pub invariant-loop-block : goal.invariant-loop-block
invariant-loop-block g l = record {
  at : AtDesk l.desk l.chair;
  given : HasGiven g.M.Machine.meaning (start_of l.desk) (view l.fn.chair) (view l.chair) l.fn.held.cells l.held.cells;
  room : l.held.room ≡ l.fn.held.room;
}

abbrev pub decreases-loop-block : goal.decreases-loop-block
decreases-loop-block g l = length l.held.cells
