use Rattle.std.proofs.Common.{◌≡◌, ℕ}
use Rattle.std.specs.List.{Contains}
use Rattle.mq_blocks.specs.Geometry.{homes_of}
use Rattle.mq_turns.specs.AtDesk.{AtDesk, start_of, view}
use Rattle.mq_journal.specs.Machine.{journal}
use Rattle.mq_sessions.specs.Wanted.{AreWanted, HoldsWanted, IsSameSession}
use Rattle.mq_sessions.proofs.WantedMissing.{missing}
use Rattle.mq_sessions.proofs.rounds.run_in_rounds.Given as goal

abbrev pub invariant-rounds : goal.invariant-rounds
invariant-rounds g l = record {
  at : AtDesk l.desk l.chair;
  wanted : AreWanted (homes_of l.geometry) l.wanted.items;
  keeps : (b : ℕ) → Contains l.fn.wanted.items b → Contains l.wanted.items b;
  holds : HoldsWanted (journal g.P.Port.state g.P.Port.faults g.G.Groups.group) (start_of l.desk) l.wanted.items l.held.cells (view l.chair);
  same : IsSameSession (view l.fn.chair) (view l.chair);
  room : l.held.room ≡ l.fn.held.room;
}

abbrev pub decreases-rounds : goal.decreases-rounds
decreases-rounds g l = missing (homes_of l.geometry) l.wanted.items
