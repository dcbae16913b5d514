-- Inodes that requests change: what is known of them, and what may be done.
use Rattle.std.specs.Prelude.{◌≡◌, ◌≢◌, ◌≤◌, ◌<◌, ◌+◌, ◌*◌, ◌^◌, ℕ, List, length, slice_index, slice_index_or, slice_set, Option, Some, None, is_some, nat_lt}
use Rattle.mq_blocks.specs.Geometry.{queues_of}
use Rattle.mq_blocks.specs.declared.geometry.Geometry.{Geometry}
use Rattle.mq_inodes.specs.Edits.{Becomes}
use Rattle.mq_inodes.specs.Pages.{IsHeld, Pages}
use Rattle.mq_inodes.specs.Picks.{ArePicked, IsMarkable}
use Rattle.mq_inodes.specs.declared.opened.Opened.{Opened}
use Rattle.mq_inodes.specs.declared.working.Working.{Working}
use Rattle.mq_layout.specs.Places.{file_limit, inodes_of}
use Rattle.mq_layout.specs.declared.inode.Inode.{Inode}
use Rattle.mq_layout.specs.Slots.{Entry, IsEntry}
use Rattle.mq_tree.specs.Free.{grown, needs}
use Rattle.mq_tree.specs.Laid.{inode_of}
use Rattle.mq_tree.specs.Requests.{link_needs, unused}
use Rattle.mq_tree.specs.Volume.{Body, Free, File, Dir, Volume, body, node, cut_node}

-- what is known of the inode is what the volume has
pub record IsOpened (g : Geometry) (v : Volume) (o : Opened) : Type 0 where
  pub low : o.number < inodes_of g
  pub inode : o.inode ≡ inode_of (node v o.number)
  pub blocks : o.blocks.items ≡ (node v o.number).blocks
  -- it has a block of pointers exactly where there are more than twelve blocks
  pub indirect : is_some (node v o.number).indirect ≡ nat_lt 12 (length (node v o.number).blocks)

-- ---- growing

-- what is behind the last block of a file or directory
abbrev pub IsWithin : Body → (count : ℕ) → Type 0
IsWithin Free count = ⊥
IsWithin (File bytes) count = (length bytes ≤ 4096 * count) × (length bytes ≤ file_limit)
IsWithin (Dir slots) count = length slots ≤ 15 * count

-- a block that may be taken
pub record IsTakeable (g : Geometry) (pages : Pages) (b : ℕ) : Type 0 where
  pub marks : IsMarkable g pages b
  pub free : pages b ≡ Some None

-- the block of pointers of an inode is held, where it has one
abbrev pub HoldsPointers : Pages → Opened → Type 0
HoldsPointers pages o = 12 < length o.blocks.items → IsHeld pages o.inode.indirect

-- the inode of a file or directory may get `count` blocks more
pub record MayGrow (g : Geometry) (q : ℕ) (v : Volume) (o : Opened) (picks : List ℕ)
    (count : ℕ) : Type 0 where
  pub opened : IsOpened g v o
  pub queue : q < queues_of g
  pub within : IsWithin (body v o.number) (length o.blocks.items)
  pub few : length o.blocks.items + count ≤ 1036
  pub picked : ArePicked g q v (needs (length o.blocks.items) (length o.blocks.items + count)) picks

-- and it has got them
pub record HasGrown (g : Geometry) (q : ℕ) (v : Volume) (old new : Working) (before after : Opened)
    (count : ℕ) : Type 0 where
  pub number : after.number ≡ before.number
  pub becomes : Becomes g v (grown g q v before.number count) old new
  pub opened : IsOpened g (grown g q v before.number count) after

-- ---- directories

-- A directory has these blocks, and no name twice.
pub record MayUnlink (g : Geometry) (v : Volume) (d : ℕ) (blocks : List ℕ) : Type 0 where
  pub low : d < inodes_of g
  pub slots : List (Option Entry)
  pub is : body v d ≡ Dir slots
  pub blocks_are : blocks ≡ (node v d).blocks
  pub size : length slots ≡ 15 * length blocks
  pub apart : (k l : ℕ) (e f : Entry) → slice_index_or slots k None ≡ Some e
      → slice_index_or slots l None ≡ Some f → e.name ≡ f.name → k ≡ l

-- An entry may be added to a directory: in an unused slot, or in a block more.
pub record MayLink (g : Geometry) (q : ℕ) (v : Volume) (o : Opened) (entry : Entry)
    (picks : List ℕ) : Type 0 where
  pub opened : IsOpened g v o
  pub queue : q < queues_of g
  pub slots : List (Option Entry)
  pub is : body v o.number ≡ Dir slots
  pub size : length slots ≡ 15 * length o.blocks.items
  pub form : IsEntry entry
  pub few : unused 0 slots ≡ None → length o.blocks.items < 1036
  pub picked : ArePicked g q v (link_needs (node v o.number)) picks

-- ---- freeing

-- a block that may be freed
pub record IsReleasable (g : Geometry) (pages : Pages) (b : ℕ) : Type 0 where
  pub marks : IsMarkable g pages b
  pub known : pages b ≢ None

-- A file may be cut to `count` blocks, with these bytes in place of its own.
pub record MayCut (g : Geometry) (v : Volume) (o : Opened) (count : ℕ) (bytes now : List ℕ) : Type 0 where
  pub opened : IsOpened g v o
  pub is : body v o.number ≡ File bytes
  pub few : count ≤ length o.blocks.items
  pub size : length now ≤ file_limit
  pub same : (k : ℕ) → k < 4096 * count → slice_index bytes k ≡ slice_index now k

abbrev pub cut_file : Volume → ℕ → (count : ℕ) → List ℕ → Volume
cut_file v i count bytes = slice_set v i (cut_node (node v i) count bytes)

-- ---- names

-- A file may have this number of links.
pub record MayCount (g : Geometry) (v : Volume) (i n : ℕ) (inode : Inode) : Type 0 where
  pub low : i < inodes_of g
  pub says : inode ≡ inode_of (node v i)
  pub bytes : List ℕ
  pub is : body v i ≡ File bytes
  pub size : length bytes ≤ file_limit
  pub few : (1 ≤ n) × (n < 2 ^ 16)
