-- Ports whose power never ends, and none of whose commands is to fail.
use Rattle.std.specs.Prelude.{◌≡◌, ◌<◌, ℕ, false, None}
use Rattle.mq_blocks.specs.Drive.{PortState}
use Rattle.mq_blocks.specs.declared.geometry.Geometry.{Geometry}
use Rattle.mq_ledger.specs.State.{port_at}
use Rattle.mq_recover.specs.Drives.{DriveState}
use Rattle.mq_replica.specs.Offers.{ReplicaState}
use Rattle.mq_command_replicate.specs.Updates.{IsReplicaGeometry}

abbrev pub IsPortLasting : PortState → Type 0
IsPortLasting s = (s.fuse.limit ≡ None) × (s.fail ≡ None)

pub record IsLasting (g : Geometry) (d : DriveState) : Type 0 where
  pub queues : (q : ℕ) → q < g.queues → IsPortLasting (port_at d.queues q)
  pub root : IsPortLasting d.root

-- a replica of block texts on such ports, which nothing has stopped
pub record IsFollowing (r : ReplicaState) : Type 0 where
  pub geometry_is : IsReplicaGeometry r.geometry
  pub lasting : IsLasting r.geometry r.drive
  pub stopped : r.stopped ≡ false
