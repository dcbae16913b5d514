use Rattle.std.proofs.Common.{◌≡◌, length}
use Rattle.mq_turns.specs.AtDesk.{AtDesk, start_of, view}
use Rattle.mq_journal.specs.Machine.{journal}
use Rattle.mq_sessions.proofs.LeavingAfterDraw.{HasLeft}
use Rattle.mq_sessions.proofs.leaving.give_drawn_pages.Given as goal

abbrev pub invariant-loop-block : goal.invariant-loop-block
invariant-loop-block g l = record {
  at : AtDesk l.desk l.chair;
  left : HasLeft (journal g.P.Port.state g.P.Port.faults g.G.Groups.group) (start_of l.desk) l.number l.plan l.frees (view l.fn.chair) (view l.chair) l.fn.held.cells l.held.cells l.fn.writes.items l.writes.items;
  room : l.held.room ≡ l.fn.held.room;
}

abbrev pub decreases-loop-block : goal.decreases-loop-block
decreases-loop-block g l = length l.held.cells
