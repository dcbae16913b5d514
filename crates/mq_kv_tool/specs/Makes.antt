-- `new`: what it makes of the name of an image, and what it says.
use Rattle.std.specs.Prelude.{◌≡◌, ℕ, List}
use Rattle.mq_blocks.specs.Geometry.{area_of, meta_of, queues_of, zone_size}
use Rattle.mq_blocks.specs.declared.geometry.Geometry.{Geometry}
use Rattle.mq_command_io.specs.Ending.{IsNotSaved, IsSaved, memory_line}
use Rattle.mq_image.specs.File.{DriveImage, image_bytes}
use Rattle.mq_image_ops.specs.Empty.{IsBlankDrive}
use Rattle.mq_kv_text.specs.Reports.{new_text}
use Rattle.mq_outside.specs.Outside.{FilesState}

-- one queue, an area of 1,024 blocks, 64 buckets, and a zone of one block, which stays unused
pub record IsNewShape (g : Geometry) : Type 0 where
  pub queues : queues_of g ≡ 1
  pub area : area_of g ≡ 1024
  pub buckets : meta_of g ≡ 64
  pub zone : zone_size g ≡ 1

-- the bytes are the file of a drive of zeros of this shape
pub record IsNewFile (bytes : List ℕ) : Type 0 where
  pub geometry : Geometry
  pub shape : IsNewShape geometry
  pub x : DriveImage
  pub blank : IsBlankDrive geometry x
  pub file : bytes ≡ image_bytes x

-- The name holds such a file now; or the file was not saved, and why is said; or memory ran out before.
pub data Makes (name : List ℕ) (old new : FilesState) : (status : ℕ) → (text : List ℕ) → Type 0 where
  made : (bytes : List ℕ) → IsNewFile bytes → IsSaved name bytes old new → Makes name old new 0 new_text
  not_made : {status : ℕ} {text : List ℕ} → IsNotSaved name old new status text
      → Makes name old new status text
  wanting : new ≡ old → Makes name old new 6 memory_line
