use Rattle.std.proofs.Common.{◌≡◌}
use Rattle.mq_turns.specs.AtDesk.{AtDesk, start_of, view}
use Rattle.mq_sessions.proofs.PagesTaking.{HasTaken}
use Rattle.mq_sessions.proofs.pages.take_pages.Given as goal

abbrev pub invariant-loop-block : goal.invariant-loop-block
invariant-loop-block g l = record {
  at : AtDesk l.desk l.chair;
  taken : HasTaken g.M.Machine.meaning (start_of l.desk) l.blocks l.block-index (view l.fn.chair) (view l.chair) l.fn.held.cells l.held.cells;
  room : l.held.room ≡ l.fn.held.room;
}
