-- Files that are cut: at what is looked, what is planned, and what is written.
use Rattle.std.specs.Prelude.{◌≡◌, ◌≢◌, ◌≤◌, ◌<◌, ◌/◌, ◌%◌, ◌⊎◌, ℕ, List, drop, length, slice_get, slice_index, Some}
use Rattle.std.specs.List.{All}
use Rattle.mq_blocks.specs.Blocks.{zeros}
use Rattle.mq_blocks.specs.declared.geometry.Geometry.{Geometry}
use Rattle.mq_exec.specs.Plans.{HoldsPlaces}
use Rattle.mq_exec.specs.declared.truncate.Cutting.{Cutting}
use Rattle.mq_inodes.specs.Changes.{IsTextPut, zone_in}
use Rattle.mq_inodes.specs.Edits.{IsKindPut}
use Rattle.mq_inodes.specs.Opened.{HoldsPointers, IsOpened, IsReleasable}
use Rattle.mq_inodes.specs.Pages.{IsHeld, Pages, pages_of}
use Rattle.mq_inodes.specs.declared.working.Working.{Working}
use Rattle.mq_layout.specs.Places.{inode_block, zone_bitmap}
use Rattle.mq_pages.specs.declared.page.Kind.TheVariants.{Data}
use Rattle.mq_tree.specs.Sound.{blocks_for}
use Rattle.mq_tree.specs.Volume.{File, Volume, body, node}

-- ---- at what is looked

-- Where a file is cut to `size` bytes: a block from that of the first byte that goes on, its block of
-- pointers, or the bitmap of the zone of a block that is freed.
pub data LooksCut (g : Geometry) (v : Volume) (i size b : ℕ) : Type 0 where
  part : (place : ℕ) → size / 4096 ≤ place → slice_get (node v i).blocks place ≡ Some b
      → LooksCut g v i size b
  pointers : (node v i).indirect ≡ Some b → LooksCut g v i size b
  marks : (place c : ℕ) → blocks_for size ≤ place → slice_get (node v i).blocks place ≡ Some c
      → b ≡ zone_bitmap (zone_in g c) → LooksCut g v i size b
  pointer_marks : (c : ℕ) → blocks_for size ≤ 12 → (node v i).indirect ≡ Some c
      → b ≡ zone_bitmap (zone_in g c) → LooksCut g v i size b

-- ---- the plan

pub record PlansCut (g : Geometry) (v : Volume) (m : Cutting) : Type 0 where
  pub opened : IsOpened g v m.file
  pub bytes : List ℕ
  pub is : body v m.file.number ≡ File bytes
  pub shorter : m.size < length bytes
  pub count : length m.file.blocks.items ≡ blocks_for (length bytes)

pub record HoldsCut (g : Geometry) (pages : Pages) (m : Cutting) : Type 0 where
  pub table : IsHeld pages (inode_block g m.file.number)
  pub last : HoldsPlaces pages m.file.blocks.items (m.size / 4096) (blocks_for m.size)
  pub blocks : All (IsReleasable g pages) (drop (blocks_for m.size) m.file.blocks.items)
  pub pointers : HoldsPointers pages m.file
  pub release : blocks_for m.size ≤ 12 → 12 < length m.file.blocks.items
      → IsReleasable g pages m.file.inode.indirect

-- ---- what is written

-- zeros were written from a byte of a block on, up to its end
pub record IsBlankPut (old new : Working) (b from : ℕ) : Type 0 where
  pub text : IsTextPut (pages_of old) (pages_of new) b from (drop from zeros)
  pub kind : IsKindPut old new b (Some Data)

-- the same behind the last byte of a file of this size, where its last block has such bytes
abbrev pub IsBlanked : (old new : Working) → (blocks : List ℕ) → (size : ℕ) → Type 0
IsBlanked old new blocks size =
    ((size % 4096 ≡ 0) × (new ≡ old))
    ⊎ ((size % 4096 ≢ 0) × IsBlankPut old new (slice_index blocks (size / 4096)) (size % 4096))
