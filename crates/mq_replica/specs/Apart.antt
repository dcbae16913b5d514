-- The ports of a replica that is taken apart.
use Rattle.std.specs.Prelude.{◌≤◌, ℕ, List}
use Rattle.mq_blocks.specs.Descriptor.{Descriptor}
use Rattle.mq_blocks.specs.declared.geometry.Geometry.{Geometry}
use Rattle.mq_recover.specs.Drives.{DriveState, view_over}
use Rattle.mq_recover.specs.Recovery.{IsReadPrefix}
use Rattle.mq_ledger.specs.State.{port_at}

-- the doorbell of the queue, and the greatest number that the image shows, are at most these
pub record IsLow (g : Geometry) (d : DriveState) (doorbell top : ℕ) : Type 0 where
  pub rung : (port_at d.queues 0).doorbell ≤ doorbell
  pub shown : (ds : List Descriptor) (n : ℕ) → IsReadPrefix g (view_over g d) ds n → n ≤ top
