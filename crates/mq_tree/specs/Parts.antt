-- Phases of a mount, inode by inode: what holds of its blocks, and a block at which it does not.
use Rattle.std.specs.Prelude.{◌≡◌, ◌≢◌, ℕ, ◌*◌, ◌/◌, ◌<◌, ◌≤◌, ◌⊎◌, Bool, true, false, List, length, slice_index, slice_index_or, Some}
use Rattle.mq_blocks.specs.Blocks.{block_at}
use Rattle.mq_blocks.specs.declared.geometry.Geometry.{Geometry}
use Rattle.mq_layout.specs.Empty.{free_inode}
use Rattle.mq_layout.specs.Slots.{Entry, wrong_slot}
use Rattle.mq_layout.specs.declared.inode.Inode.{Inode}
use Rattle.mq_layout.specs.declared.refusal.LayoutRefusal.{LayoutRefusal}
use Rattle.mq_tree.specs.Clean.{IsDirBlock, IsInZone}
use Rattle.mq_tree.specs.Decoded.{Stored, byte_of, count_of, part, pointer_to, slot_of}

-- the bytes past the end of a file are zeros
abbrev pub IsEnded : Stored → Inode → Type 0
IsEnded s n = (k : ℕ) → n.kind ≡ 1 → n.size ≤ k → k < 4096 * count_of n → byte_of s n k ≡ 0

-- in this block one is not
pub record HasEndAt (s : Stored) (n : Inode) (b : ℕ) : Type 0 where
  pub k : ℕ
  pub file : n.kind ≡ 1
  pub past : n.size ≤ k
  pub inside : k < 4096 * count_of n
  pub is : b ≡ pointer_to s n (k / 4096)
  pub not_zero : byte_of s n k ≢ 0

-- a slot, or a byte behind the slots, is not in its form
abbrev pub IsBadBlock : List ℕ → Type 0
IsBadBlock block =
    ((at : ℕ) × (e : LayoutRefusal) × (at < 15) × (wrong_slot block at ≡ Some e))
    ⊎ ((k : ℕ) × (4080 ≤ k) × (k < 4096) × (slice_index block k ≢ 0))

abbrev pub AreDirBlocks : Stored → Inode → Type 0
AreDirBlocks s n = n.kind ≡ 2 → (place : ℕ) → place < count_of n → IsDirBlock (part s n place)

-- The block at this place of an inode lies in a zone, and so does the block of pointers in which its pointer
-- stands.
pub record LeadsTo (g : Geometry) (s : Stored) (n : Inode) (place b : ℕ) : Type 0 where
  pub is : b ≡ pointer_to s n place
  pub inside : IsInZone g b
  pub through : 12 ≤ place → IsInZone g n.indirect

-- such a block of the first `count` places of a directory
pub record HasDirBlock (g : Geometry) (s : Stored) (n : Inode) (count b : ℕ) : Type 0 where
  pub place : ℕ
  pub dir : n.kind ≡ 2
  pub low : place < count
  pub there : LeadsTo g s n place b

-- just those were marked besides
pub record AddsMarks (g : Geometry) (s : Stored) (n : Inode) (count : ℕ) (old new : List Bool) : Type 0 where
  pub size : length new ≡ length old
  pub only : (b : ℕ) → slice_index_or new b false ≡ true
      → (slice_index_or old b false ≡ true) ⊎ HasDirBlock g s n count b
  pub kept : (b : ℕ) → slice_index_or old b false ≡ true → slice_index_or new b false ≡ true
  pub all : (b : ℕ) → HasDirBlock g s n count b → slice_index_or new b false ≡ true

-- the inode is used, and is not the root
pub record IsNamedBy (inodes : List Inode) (i : ℕ) : Type 0 where
  pub low : i < length inodes
  pub not_root : i ≢ 0
  pub used : (slice_index_or inodes i free_inode).kind ≢ 0

-- a slot of a block is unused, or names such an inode
abbrev pub NamesRight : List Inode → List ℕ → (at : ℕ) → Type 0
NamesRight inodes block at = (e : Entry) → slot_of block at ≡ Some e → IsNamedBy inodes e.inode

-- the slots of a block name such inodes
abbrev pub NameAll : List Inode → List ℕ → Type 0
NameAll inodes block = (at : ℕ) → at < 15 → NamesRight inodes block at

-- one of them does not
pub record NamesOther (inodes : List Inode) (block : List ℕ) : Type 0 where
  pub at : ℕ
  pub e : Entry
  pub small : at < 15
  pub there : slot_of block at ≡ Some e
  pub wrong : IsNamedBy inodes e.inode → ⊥

-- a block of a directory has such a slot
pub record HasBadName (s : Stored) (inodes : List Inode) (n : Inode) (b : ℕ) : Type 0 where
  pub place : ℕ
  pub dir : n.kind ≡ 2
  pub inside : place < count_of n
  pub is : b ≡ pointer_to s n place
  pub other : NamesOther inodes (block_at s b)
