use Rattle.std.proofs.Common.{◌≡◌, ◌≤◌, []}
use Rattle.mq_turns.specs.AtDesk.{AtDesk, view}
use Rattle.mq_journal.specs.Pages.{AreNoted}
use Rattle.mq_journal.specs.Steps.{MovesOn}
use Rattle.mq_journal.proofs.pages.bring_pages.Given as goal

abbrev pub invariant-loop-block : goal.invariant-loop-block
invariant-loop-block g l = record {
  at : AtDesk l.desk l.chair;
  idle : (view l.chair).held ≡ [];
  done : l.done ≤ (view l.chair).reading.done;
  noted : AreNoted g.P.Port.state g.P.Port.faults g.G.Groups.group l.fn.base l.block (view l.chair).reading.pages;
  moves : MovesOn [] [] (view l.fn.chair) (view l.chair);
}
