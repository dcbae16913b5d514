-- A replica as the contracts of its calls see it.
use Rattle.std.specs.Prelude.{List}
use Rattle.mq_blocks.specs.Drive.{PortState}
use Rattle.mq_drive.specs.Steps.{PortFault}
use Rattle.mq_drive.specs.declared.port.Port.{Ghosts}
use Rattle.mq_replica.specs.Held.{replica_of}
use Rattle.mq_replica.specs.Offers.{ReplicaState}
use Rattle.mq_replica.specs.declared.replica.Follower.{Follower}

abbrev pub replica_state : {Q P : Type 0} {G : Ghosts Q} → (Q → PortState) → (Q → List PortFault)
    → Follower Q P G → ReplicaState
replica_state state faults r = replica_of state faults r.geometry r.reached r.offers r.held
