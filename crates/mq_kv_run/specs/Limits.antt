-- From which image a run begins.
use Rattle.std.specs.Prelude.{◌<◌, ℕ, List, Some}
use Rattle.mq_blocks.specs.Blocks.{content}
use Rattle.mq_blocks.specs.Descriptor.{Descriptor}
use Rattle.mq_blocks.specs.Geometry.{meta_of}
use Rattle.mq_blocks.specs.Journal.{stands}
use Rattle.mq_blocks.specs.Machine.{Map}
use Rattle.mq_image.specs.File.{DriveImage}
use Rattle.mq_image_ops.specs.Standing.{Reads}
use Rattle.mq_image_ops.specs.Views.{view_of}
use Rattle.mq_image_run.specs.Limits.{AreWithin}
use Rattle.mq_kv_buckets.specs.Buckets.{IsFirstBad, IsFormed}
use Rattle.mq_kv_buckets.specs.Store.{AreBuckets}

-- the home blocks that stand by these descriptors
abbrev pub standing_map : DriveImage → List Descriptor → Map
standing_map x ds b = Some (stands x.geometry (view_of x) ds b)

-- This bucket is the first that is not in its form, and this is the offset of what is wrong in it first.
pub record IsBadBucket (buckets : ℕ) (m : Map) (b offset : ℕ) : Type 0 where
  pub is : b < buckets
  pub before : (a : ℕ) → a < b → IsFormed (content (m a))
  pub bad : IsFirstBad (content (m b)) offset

-- The image is readable: these are the descriptors of its prefix, and this is the greatest number that it
-- shows. It is within the limits, and the buckets that stand are in their form, so that a store stands on it.
pub record HoldsStore (x : DriveImage) (ds : List Descriptor) (top : ℕ) : Type 0 where
  pub read : Reads x ds top
  pub within : AreWithin x top
  pub formed : AreBuckets (meta_of x.geometry) (standing_map x ds)
