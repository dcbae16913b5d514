-- Why no groups are run on an image.
use Rattle.std.specs.Prelude.{◌≡◌, ℕ, List}
use Rattle.mq_blocks.specs.Descriptor.{Descriptor}
use Rattle.mq_blocks.specs.Geometry.{meta_of}
use Rattle.mq_image.specs.File.{DriveImage}
use Rattle.mq_image_ops.specs.Standing.{Reads, RefusesDrive}
use Rattle.mq_kv.specs.declared.refusal.KvOpenRefusal.{KvOpenRefusal}
use Rattle.mq_kv.specs.declared.refusal.KvOpenRefusal.TheVariants as opening
use Rattle.mq_recover.specs.declared.refusal.ImageFault.{ImageFault}
use Rattle.mq_recover.specs.declared.refusal.ImageFault.TheVariants as fault
use Rattle.mq_image_run.specs.Limits.{AreWithin, IsFirstAbove}
use Rattle.mq_image_run.specs.declared.unplayed.Unplayed.{Unplayed}
use Rattle.mq_image_run.specs.declared.unplayed.Unplayed.TheVariants as unplayed
use Rattle.mq_kv_run.specs.Limits.{IsBadBucket, standing_map}
use Rattle.mq_kv_run.specs.declared.refusal.KvRunRefusal.{KvRunRefusal}
use Rattle.mq_kv_run.specs.declared.refusal.KvRunRefusal.TheVariants.{Bucket, Image, OutOfMemory}

-- The image is not readable, and this is the first cause; or its greatest number or a doorbell is above the limit
-- of a run; or a bucket that stands is not in its form; or memory ran out.
pub data RefusesStore (x : DriveImage) : KvRunRefusal → Type 0 where
  not_readable : (e : ImageFault) → RefusesDrive x e → RefusesStore x (Image e)
  above_limit : {n : ℕ} (ds : List Descriptor) (top : ℕ) → Reads x ds top → IsFirstAbove x top n
      → RefusesStore x (Image (fault.Limit n))
  not_formed : {b offset : ℕ} (ds : List Descriptor) (top : ℕ) → Reads x ds top → AreWithin x top
      → IsBadBucket (meta_of x.geometry) (standing_map x ds) b offset → RefusesStore x (Bucket b offset)
  wanting : RefusesStore x OutOfMemory

-- why no store is opened, as a refusal of a run
abbrev pub IsUnopened : KvOpenRefusal → KvRunRefusal → Type 0
IsUnopened (opening.Bucket block offset) e = e ≡ Bucket block offset
IsUnopened opening.OutOfMemory e = e ≡ OutOfMemory

-- why a drive is not readable, where it is not for want of memory
abbrev pub refusal_for : ImageFault → KvRunRefusal
refusal_for fault.OutOfMemory = OutOfMemory
refusal_for e = Image e

-- why no groups are played on an image
abbrev pub refusal_from : Unplayed KvRunRefusal → KvRunRefusal
refusal_from (unplayed.Image e) = refusal_for e
refusal_from (unplayed.Refused e) = e
