-- What recovery of an image leads to.
use Rattle.std.specs.Prelude.{◌≡◌, ◌<◌, ℕ, List, Option, None, Some}
use Rattle.mq_blocks.specs.Blocks.{content}
use Rattle.mq_blocks.specs.Geometry.{meta_of}
use Rattle.mq_blocks.specs.Machine.{Map}
use Rattle.mq_blocks.specs.declared.geometry.Geometry.{Geometry}
use Rattle.mq_image.specs.File.{DriveImage}
use Rattle.mq_image_ops.specs.Recovering.{IsRecoveryOf}
use Rattle.mq_image_ops.specs.Views.{view_of}
use Rattle.mq_image_ops.specs.declared.recovery.RecoveredImage.{RecoveredImage}
use Rattle.mq_kv_buckets.specs.Store.{kv_of}

-- Recovery of an image leads to this one, cut and begun again any number of times, and at last whole.
pub data LeadsTo (y : DriveImage) : DriveImage → Type 0 where
  at_last : {x : DriveImage} (limit : Option ℕ) (r : RecoveredImage) → IsRecoveryOf x limit r
      → r.cut ≡ None → r.image ≡ y → LeadsTo y x
  again : {x : DriveImage} (limit : Option ℕ) (r : RecoveredImage) → IsRecoveryOf x limit r
      → LeadsTo y r.image → LeadsTo y x

-- the home blocks of an image
abbrev pub home_map : DriveImage → Map
home_map y b = Some ((view_of y).home b)

-- The buckets at home are those of the map, and so the store in them is that of the map.
pub record HoldsHome (g : Geometry) (y : DriveImage) (m : Map) : Type 0 where
  pub homes : (b : ℕ) → b < meta_of g → (view_of y).home b ≡ content (m b)
  pub store : (key : List ℕ) → kv_of (meta_of g) (home_map y) key ≡ kv_of (meta_of g) m key
