use Rattle.std.proofs.Common.{◌≡◌}
use Rattle.std.specs.VecDeque.{deque_len}
use Rattle.mq_blocks.specs.Geometry.{homes_of}
use Rattle.mq_recover.specs.Drives.{ArePorts, states, faults_of}
use Rattle.mq_recover.specs.RecoverHomes.{AreBelow}
use Rattle.mq_recover.proofs.StepsEvents.{HasLeft}
use Rattle.mq_recover.proofs.homes.write_homes.Given as goal

-- the events of the writes that are left follow those that happened
abbrev pub invariant-loop-b : goal.invariant-loop-b
invariant-loop-b g l =
    let state = g.P.Port.state in
    let faults = g.P.Port.faults in
    record {
      ports : ArePorts l.fn.geometry (states state l.ports.queues.items l.ports.root);
      below : AreBelow (homes_of l.fn.geometry) l.writes.items;
      so_far : HasLeft l.fn.geometry (states state l.fn.ports.queues.items l.fn.ports.root) l.fn.writes.items l.writes.items (states state l.ports.queues.items l.ports.root);
      faults : faults_of faults l.ports.queues.items l.ports.root ≡ faults_of faults l.fn.ports.queues.items l.fn.ports.root;
    }

abbrev pub decreases-loop-b : goal.decreases-loop-b
decreases-loop-b g l = deque_len l.writes
