-- A side on a desk, as the contracts of its calls see it.
use Rattle.std.proofs.Common.{ℕ, List, refl}
use Rattle.mq_blocks.specs.Drive.{PortState}
use Rattle.mq_drive.specs.Steps.{PortFault}
use Rattle.mq_drive.specs.declared.port.Port.{Ghosts}
use Rattle.mq_desk_laws.specs.Groups.{GroupView}
use Rattle.mq_desk_laws.specs.Rule.{DeskState, IsSide, core_of, own_of}
use Rattle.mq_queue_side.specs.Side.{IsQueueSide, side_state}
use Rattle.mq_queue_side.specs.declared.side.QueueSide.{QueueSide}
use Rattle.mq_journal.specs.Values.{side_values}

module _ {P E : Type 0} {G : Ghosts P} (state : P → PortState) (faults : P → List PortFault) (group : GroupView E) where
  pub queue_side : (q : ℕ) (K : DeskState (side_values {G = G} state faults) group) (s : QueueSide P E G) → IsSide (side_values state faults) group q K s
      → IsQueueSide (core_of (side_values state faults) group K) q (own_of (side_values state faults) group q K) (side_state state faults s)
  queue_side q K s is = let r = is.says.is in record {
    geometry = r.geometry;
    queue = r.queue;
    entries = refl;
    side = is.port;
    passed = r.passed;
    rung = r.rung;
    last = r.last;
    done = r.done;
    kept = r.kept;
  }
