-- The status with which each command ends, by what the files hold, where nothing fails and memory does not run out.
use Rattle.std.specs.Prelude.{◌≡◌, ℕ, List, Option, Some}
use Rattle.mq_blocks.specs.Descriptor.{Descriptor}
use Rattle.mq_blocks.specs.Geometry.{meta_of}
use Rattle.mq_image.specs.Drives.{IsRead}
use Rattle.mq_image.specs.Faults.{HasFault}
use Rattle.mq_image.specs.File.{DriveImage}
use Rattle.mq_image.specs.declared.fault.FileFault.{FileFault}
use Rattle.mq_image_ops.specs.Standing.{Reads, RefusesDrive}
use Rattle.mq_kv_buckets.specs.declared.operation.KvOp.{KvOp}
use Rattle.mq_kv_cli.specs.Asked.{Asked, apply, help, make, version}
use Rattle.mq_image_run.specs.Limits.{AreWithin, IsFirstAbove}
use Rattle.mq_kv_run.specs.Limits.{HoldsStore, IsBadBucket, standing_map}
use Rattle.mq_kv_text.specs.Files.{IsFile, IsMisread}
use Rattle.mq_outside.specs.Outside.{Held, Tells}
use Rattle.mq_recover.specs.declared.refusal.ImageFault.{ImageFault}

-- one name holds an image, and the other a file of groups
pub record HaveFiles (image file : List ℕ) (held : Option Held) (x : DriveImage) : Type 0 where
  pub bytes : List ℕ
  pub words : List ℕ
  pub groups : List (List KvOp)
  pub tells_image : Tells held image (Some bytes)
  pub read : IsRead x bytes
  pub tells_file : Tells held file (Some words)
  pub is_file : IsFile words groups

-- `apply`: the one name holds no image; or a line of what the other holds is not in its form; or the image is not
-- readable, or above the limits of a run, or a bucket that stands on it is not in its form; or a store stands on it
-- within the limits, and the groups are run.
pub data ApplyDecides (image file : List ℕ) (held : Option Held) : ℕ → Type 0 where
  no_drive : (bytes : List ℕ) (e : FileFault) → Tells held image (Some bytes) → HasFault bytes (Some e)
      → ApplyDecides image file held 3
  bad_file : (bytes words : List ℕ) (x : DriveImage) (line : ℕ) → Tells held image (Some bytes)
      → IsRead x bytes → Tells held file (Some words) → IsMisread words line → ApplyDecides image file held 2
  unreadable : (x : DriveImage) (e : ImageFault) → HaveFiles image file held x → RefusesDrive x e
      → ApplyDecides image file held 3
  above_limit : (x : DriveImage) (ds : List Descriptor) (top n : ℕ) → HaveFiles image file held x
      → Reads x ds top → IsFirstAbove x top n → ApplyDecides image file held 3
  bad_bucket : (x : DriveImage) (ds : List Descriptor) (top b offset : ℕ) → HaveFiles image file held x
      → Reads x ds top → AreWithin x top → IsBadBucket (meta_of x.geometry) (standing_map x ds) b offset
      → ApplyDecides image file held 3
  runs : (x : DriveImage) (ds : List Descriptor) (top : ℕ) → HaveFiles image file held x → HoldsStore x ds top
      → ApplyDecides image file held 0

abbrev pub Decides : Asked → Option Held → (status : ℕ) → Type 0
Decides (make image) held status = status ≡ 0
Decides (apply image file options) held status = ApplyDecides image file held status
Decides (help topic) held status = status ≡ 0
Decides version held status = status ≡ 0
