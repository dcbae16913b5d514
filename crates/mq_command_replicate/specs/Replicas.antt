-- The image of a replica of a block text, and what is printed of it.
use Rattle.std.specs.Prelude.{◌≡◌, ◌<◌, ℕ, List, ◌∷◌, ◌++◌, length, codes, Some}
use Rattle.mq_block_text.specs.Text.{live_text, number_text}
use Rattle.mq_block_text.specs.declared.item.BlockItem.{BlockItem}
use Rattle.mq_block_trace.specs.Lines.{live_from, map_after, named}
use Rattle.mq_blocks.specs.Descriptor.{Descriptor}
use Rattle.mq_blocks.specs.Journal.{Reaches, stands}
use Rattle.mq_image.specs.Drives.{IsDrive}
use Rattle.mq_image.specs.File.{DriveImage}
use Rattle.mq_image_ops.specs.Standing.{Reads}
use Rattle.mq_image_ops.specs.Views.{view_of}
use Rattle.mq_replica.specs.Contents.{number_in}
use Rattle.mq_replica.specs.Updates.{last_home}
use Rattle.mq_command_replicate.specs.Updates.{IsReplicaGeometry, entries_upto}

-- By these descriptors the last home block says the number of lines, and the blocks of the map after all of
-- them stand.
pub record HoldsLines (lines : List (List BlockItem)) (x : DriveImage) (ds : List Descriptor) : Type 0 where
  pub number : number_in (stands x.geometry (view_of x) ds (last_home x.geometry)) ≡ length lines
  pub holds : (b : ℕ) (content : List ℕ) → b < 256 → map_after lines (length lines) b ≡ Some content
      → stands x.geometry (view_of x) ds b ≡ content

-- What a cut leaves of a replica of the lines: a readable image, by whose descriptors they are held. Its
-- doorbell is past the entries of all of them, and past no others.
pub record IsLeftReplica (lines : List (List BlockItem)) (x : DriveImage) : Type 0 where
  pub geometry_is : IsReplicaGeometry x.geometry
  pub drive : IsDrive x
  pub readable : ∥ ((ds : List Descriptor) × Reaches x.geometry (view_of x) ds) ∥₁
  pub hold : (ds : List Descriptor) → Reaches x.geometry (view_of x) ds → HoldsLines lines x ds
  pub rung : (view_of x).doorbell 0 ≡ entries_upto lines (length lines)

-- the same, by descriptors that were read
pub record IsReplicaOf (lines : List (List BlockItem)) (x : DriveImage) : Type 0 where
  pub geometry_is : IsReplicaGeometry x.geometry
  pub drive : IsDrive x
  pub ds : List Descriptor
  pub top : ℕ
  pub read : Reads x ds top
  pub hold : HoldsLines lines x ds
  pub rung : (view_of x).doorbell 0 ≡ entries_upto lines (length lines)

-- what is printed of a replica: the number that it reached, and its live blocks with their bytes
abbrev pub replica_text : (reached : ℕ) → List (ℕ × ℕ) → List ℕ
replica_text reached live = codes "reached " ++ number_text reached ++ 10 ∷ live_text live

-- the same of one that has reached all of these lines
abbrev pub output_of : List (List BlockItem) → List ℕ
output_of lines = replica_text (length lines) (live_from (map_after lines (length lines)) 0 named)
