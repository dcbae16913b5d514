use Rattle.std.proofs.Common.{◌≡◌, length}
use Rattle.mq_queue_side.specs.Counts.{KeepsCount}
use Rattle.mq_queue_side.specs.Drained.{HasEnded}
use Rattle.mq_queue_side.specs.Side.{SideState, side_state}
use Rattle.mq_queue_side.specs.Staying.{Stays}
use Rattle.mq_queue_side.specs.Told.{KeepsTold}
use Rattle.mq_queue_side.proofs.DrainedCompletes.{SoFar}
use Rattle.mq_queue_side.proofs.side.QueueSide.complete.Given as goal

-- the side stays one, and what failed so far is taken
abbrev pub invariant-completion : goal.invariant-completion
invariant-completion g l =
    let old : SideState = side_state g.P.Port.state g.P.Port.faults l.fn.self in
    let now : SideState = side_state g.P.Port.state g.P.Port.faults l.self in
    record {
      so : SoFar old l.failed now;
      ended : HasEnded old now;
      stays : Stays old now;
      counts : KeepsCount old now;
      told : KeepsTold old now;
      stored : l.self.stored ≡ l.fn.self.stored;
    }

abbrev pub decreases-completion : goal.decreases-completion
decreases-completion g l = length (g.P.Port.state l.self.pmr.port).posted
