-- What a recovery of an image leaves as it was.
use Rattle.std.specs.Prelude.{◌≡◌, ◌⊎◌, ◌<◌, ℕ, Option, None}
use Rattle.mq_blocks.specs.Geometry.{area_of, homes_of, queues_of}
use Rattle.mq_blocks.specs.Journal.{image_at}
use Rattle.mq_blocks.specs.Machine.{Writes}
use Rattle.mq_image.specs.Drives.{IsDrive}
use Rattle.mq_image.specs.File.{DriveImage, queue_ports}
use Rattle.mq_image_ops.specs.Cuts.{IsPickedRecovery}
use Rattle.mq_image_ops.specs.Recovering.{IsRecoveryOf}
use Rattle.mq_image_ops.specs.Views.{view_of}
use Rattle.mq_image_ops.specs.declared.recovery.RecoveredImage.{RecoveredImage}
use Rattle.mq_recover.specs.RecoverHomes.{written}

-- What was left of an image has each queue's slots and journal area as they were, and each home block that
-- these writes do not write. Each head is where it was, or at its doorbell.
pub record LeavesRest (x : DriveImage) (writes : Writes) (y : DriveImage) : Type 0 where
  pub slots : (q : ℕ) → q < queues_of x.geometry
      → (image_at (queue_ports y) q).slots ≡ (image_at (queue_ports x) q).slots
  pub area : (q k : ℕ) → q < queues_of x.geometry → k < area_of x.geometry
      → (view_of y).area q k ≡ (view_of x).area q k
  pub homes : (b : ℕ) → b < homes_of x.geometry → written writes b ≡ None
      → (view_of y).home b ≡ (view_of x).home b
  pub heads : (q : ℕ) → q < queues_of x.geometry
      → ((view_of y).head q ≡ (view_of x).head q) ⊎ ((view_of y).head q ≡ (view_of x).doorbell q)

-- a recovery, whole or cut, writes home blocks that have a copy left, the base and heads, and nothing else
abbrev pub RecoveriesLeaveTheRest : Type 0
RecoveriesLeaveTheRest =
    (x : DriveImage) (limit : Option ℕ) (pick : ℕ) (r : RecoveredImage)
    → IsDrive x
    → (recovery : IsRecoveryOf x limit r)
    → IsPickedRecovery x limit pick r
    → LeavesRest x recovery.writes r.image
