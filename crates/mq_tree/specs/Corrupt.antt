-- The causes for which home blocks have no tree, each with a block at which it holds.
use Rattle.std.specs.Prelude.{◌≡◌, ◌≢◌, ◌⊎◌, ℕ, ◌+◌, ◌*◌, ◌/◌, ◌<◌, ◌≤◌, true, false, slice_index, Some}
use Rattle.mq_blocks.specs.Blocks.{block_at}
use Rattle.mq_blocks.specs.Geometry.{meta_of, queues_of, zone_size}
use Rattle.mq_blocks.specs.declared.geometry.Geometry.{Geometry}
use Rattle.mq_layout.specs.Bits.{bit_of}
use Rattle.mq_layout.specs.Inodes.{wrong_inode}
use Rattle.mq_layout.specs.Places.{inode_bitmap, inode_block, inode_place, inodes_of, table_first, zone_bitmap}
use Rattle.mq_layout.specs.Slots.{Entry, wrong_slot}
use Rattle.mq_layout.specs.Superblock.{wrong_super}
use Rattle.mq_layout.specs.declared.refusal.LayoutRefusal.{LayoutRefusal}
use Rattle.mq_tree.specs.Clean.{IsInZone}
use Rattle.mq_tree.specs.Decoded.{Stored, byte_of, count_of, pointer_to, the_inode, volume_in}
use Rattle.mq_tree.specs.Laid.{zone_block}
use Rattle.mq_tree.specs.Links.{links_to}
use Rattle.mq_tree.specs.Volume.{ADir, Use, Part, Pointers, Way, block_in, body, inode_at, is_taken, is_used, slot, thing}
use Rattle.mq_tree.specs.declared.corrupt.CorruptCause.{CorruptCause}
use Rattle.mq_tree.specs.declared.corrupt.CorruptCause.TheVariants.{Layout, Pointer, Unmarked, Shared, Count, Twin, Unreached, Kind, Tail}
use Rattle.mq_tree.specs.declared.corrupt.MountRefusal.{MountRefusal}
use Rattle.mq_tree.specs.declared.corrupt.MountRefusal.TheVariants.{Corrupt, OutOfMemory}

-- ---- what lies in a zone

-- The block at this place of an inode lies in a zone, and so does the block of pointers in which its
-- pointer stands.
pub record IsPlace (g : Geometry) (s : Stored) (i place b : ℕ) : Type 0 where
  pub is : b ≡ pointer_to s (the_inode g s i) place
  pub inside : IsInZone g b
  pub through : 12 ≤ place → IsInZone g (the_inode g s i).indirect

-- this slot of a directory, in this block
pub record IsSlotIn (g : Geometry) (s : Stored) (d k : ℕ) (e : Entry) (b : ℕ) : Type 0 where
  pub there : slot (volume_in g s) d k ≡ Some e
  pub place : IsPlace g s d (k / 15) b

-- the block of pointers through which a use leads, if it leads through one, lies in a zone
abbrev pub IsThrough : Geometry → Stored → Use → Type 0
IsThrough g s (Part i place) = 12 ≤ place → IsInZone g (the_inode g s i).indirect
IsThrough g s (Pointers i) = Unit {0}

-- the block is used so
pub record IsUsedFor (g : Geometry) (s : Stored) (u : Use) (b : ℕ) : Type 0 where
  pub block : block_in (volume_in g s) u ≡ Some b
  pub inside : IsInZone g b
  pub through : IsThrough g s u

-- ---- the causes

-- In the superblock, a bitmap or the inode table a codec refuses, or a byte or a bit has to be 0 and is not.
pub data BadTable (g : Geometry) (s : Stored) (b : ℕ) : Type 0 where
  superblock : (e : LayoutRefusal) → b ≡ 0 → wrong_super g (block_at s b) ≡ Some e → BadTable g s b
  zone_bit : (zone k : ℕ) → zone < queues_of g → b ≡ zone_bitmap zone → zone_size g ≤ k → k < 32768
      → bit_of (block_at s b) k ≡ 1 → BadTable g s b
  inode_bit : (k : ℕ) → b ≡ inode_bitmap g → inodes_of g ≤ k → k < 32768 → bit_of (block_at s b) k ≡ 1
      → BadTable g s b
  table_inode : (i : ℕ) (e : LayoutRefusal) → i < inodes_of g → b ≡ inode_block g i
      → wrong_inode (block_at s b) (inode_place i) ≡ Some e → BadTable g s b
  table_rest : (k : ℕ) → table_first g + 1024 ≤ b → b < meta_of g → slice_index (block_at s b) k ≢ 0
      → BadTable g s b

-- in a block of a directory
pub data BadDir (g : Geometry) (s : Stored) (b : ℕ) : Type 0 where
  in_slot : (i place at : ℕ) (e : LayoutRefusal) → i < inodes_of g → (the_inode g s i).kind ≡ 2
      → place < count_of (the_inode g s i) → IsPlace g s i place b → at < 15
      → wrong_slot (block_at s b) at ≡ Some e → BadDir g s b
  behind_slots : (i place k : ℕ) → i < inodes_of g → (the_inode g s i).kind ≡ 2
      → place < count_of (the_inode g s i) → IsPlace g s i place b → 4080 ≤ k → k < 4096
      → slice_index (block_at s b) k ≢ 0 → BadDir g s b

abbrev pub BadLayout : Geometry → Stored → ℕ → Type 0
BadLayout g s b = BadTable g s b ⊎ BadDir g s b

-- the block that has the pointer to this place
pub data BadPointer (g : Geometry) (s : Stored) (b : ℕ) : Type 0 where
  direct : (i k : ℕ) → i < inodes_of g → b ≡ inode_block g i → k < 12 → k < count_of (the_inode g s i)
      → (IsInZone g (pointer_to s (the_inode g s i) k) → ⊥) → BadPointer g s b
  not_direct : (i k : ℕ) → i < inodes_of g → b ≡ inode_block g i → count_of (the_inode g s i) ≤ k
      → k < 12 → slice_index (the_inode g s i).direct k ≢ 0 → BadPointer g s b
  indirect : (i : ℕ) → i < inodes_of g → b ≡ inode_block g i → 12 < count_of (the_inode g s i)
      → (IsInZone g (the_inode g s i).indirect → ⊥) → BadPointer g s b
  not_indirect : (i : ℕ) → i < inodes_of g → b ≡ inode_block g i → count_of (the_inode g s i) ≤ 12
      → (the_inode g s i).indirect ≢ 0 → BadPointer g s b
  far : (i k : ℕ) → i < inodes_of g → b ≡ (the_inode g s i).indirect → IsInZone g b → 12 ≤ k → k < 1036
      → k < count_of (the_inode g s i) → (IsInZone g (pointer_to s (the_inode g s i) k) → ⊥)
      → BadPointer g s b
  not_far : (i k : ℕ) → i < inodes_of g → b ≡ (the_inode g s i).indirect → IsInZone g b
      → 12 < count_of (the_inode g s i) → count_of (the_inode g s i) ≤ k → k < 1036
      → pointer_to s (the_inode g s i) k ≢ 0 → BadPointer g s b

-- inode 0 is no directory, in its block
pub record BadRoot (g : Geometry) (s : Stored) (b : ℕ) : Type 0 where
  pub at : b ≡ inode_block g 0
  pub not_dir : (the_inode g s 0).kind ≢ 2

-- a slot names what it may not
pub data BadName (g : Geometry) (s : Stored) (b : ℕ) : Type 0 where
  names_root : (d k : ℕ) (e : Entry) → IsSlotIn g s d k e b → e.inode ≡ 0 → BadName g s b
  -- free, or not below the number of inodes
  names_free : (d k : ℕ) (e : Entry) → IsSlotIn g s d k e b
      → is_used (body (volume_in g s) e.inode) ≡ false → BadName g s b

abbrev pub BadKind : Geometry → Stored → ℕ → Type 0
BadKind g s b = BadRoot g s b ⊎ BadName g s b

pub record IsTwin (g : Geometry) (s : Stored) (b : ℕ) : Type 0 where
  pub d : ℕ
  pub k : ℕ
  pub l : ℕ
  pub e : Entry
  pub f : Entry
  pub other : ℕ
  pub first : IsSlotIn g s d k e b
  pub second : IsSlotIn g s d l f other
  pub same : e.name ≡ f.name
  pub apart : k ≢ l

-- the block is used twice
pub record IsSharedBlock (g : Geometry) (s : Stored) (b : ℕ) : Type 0 where
  pub u : Use
  pub w : Use
  pub first : IsUsedFor g s u b
  pub second : IsUsedFor g s w b
  pub apart : u ≢ w

-- two slots name a directory, whose inode is in this block
pub record IsSharedDir (g : Geometry) (s : Stored) (b : ℕ) : Type 0 where
  pub d : ℕ
  pub k : ℕ
  pub c : ℕ
  pub l : ℕ
  pub x : ℕ
  pub y : ℕ
  pub e : Entry
  pub f : Entry
  pub first : IsSlotIn g s d k e x
  pub second : IsSlotIn g s c l f y
  pub same : e.inode ≡ f.inode
  pub dir : thing (body (volume_in g s) e.inode) ≡ Some ADir
  pub apart : (d ≡ c) × (k ≡ l) → ⊥
  pub low : e.inode < inodes_of g
  pub at : b ≡ inode_block g e.inode

abbrev pub IsShared : Geometry → Stored → ℕ → Type 0
IsShared g s b = IsSharedBlock g s b ⊎ IsSharedDir g s b

-- the links of a file of this block are not as many as the slots that name it
pub record IsMiscounted (g : Geometry) (s : Stored) (b : ℕ) : Type 0 where
  pub i : ℕ
  pub low : i < inodes_of g
  pub file : (the_inode g s i).kind ≡ 1
  pub at : b ≡ inode_block g i
  pub other : (the_inode g s i).links ≢ links_to (volume_in g s) i

pub data IsUnmarked (g : Geometry) (s : Stored) (b : ℕ) : Type 0 where
  unmarked_block : (zone k : ℕ) (u : Use) → zone < queues_of g → k < zone_size g → b ≡ zone_bitmap zone
      → IsUsedFor g s u (zone_block g zone k) → bit_of (block_at s b) k ≡ 0 → IsUnmarked g s b
  unmarked_inode : (i : ℕ) → i < inodes_of g → b ≡ inode_bitmap g
      → is_used (body (volume_in g s) i) ≡ true → bit_of (block_at s b) i ≡ 0 → IsUnmarked g s b

pub data IsUnreached (g : Geometry) (s : Stored) (b : ℕ) : Type 0 where
  unused_block : (zone k : ℕ) → zone < queues_of g → k < zone_size g → b ≡ zone_bitmap zone
      → is_taken (volume_in g s) (zone_block g zone k) ≡ false → bit_of (block_at s b) k ≡ 1
      → IsUnreached g s b
  unused_inode : (i : ℕ) → i < inodes_of g → b ≡ inode_bitmap g
      → is_used (body (volume_in g s) i) ≡ false → bit_of (block_at s b) i ≡ 1 → IsUnreached g s b
  lost_inode : (i : ℕ) → i < inodes_of g → b ≡ inode_block g i → is_used (body (volume_in g s) i) ≡ true
      → ((way : Way) → inode_at (volume_in g s) way ≢ Some i) → IsUnreached g s b

pub record HasTail (g : Geometry) (s : Stored) (b : ℕ) : Type 0 where
  pub i : ℕ
  pub k : ℕ
  pub low : i < inodes_of g
  pub file : (the_inode g s i).kind ≡ 1
  pub past : (the_inode g s i).size ≤ k
  pub inside : k < 4096 * count_of (the_inode g s i)
  pub place : IsPlace g s i (k / 4096) b
  pub not_zero : byte_of s (the_inode g s i) k ≢ 0

-- the cause holds at the block
abbrev pub IsCorrupt : Geometry → Stored → CorruptCause → ℕ → Type 0
IsCorrupt g s Layout b = BadLayout g s b
IsCorrupt g s Pointer b = BadPointer g s b
IsCorrupt g s Unmarked b = IsUnmarked g s b
IsCorrupt g s Shared b = IsShared g s b
IsCorrupt g s Count b = IsMiscounted g s b
IsCorrupt g s Twin b = IsTwin g s b
IsCorrupt g s Unreached b = IsUnreached g s b
IsCorrupt g s Kind b = BadKind g s b
IsCorrupt g s Tail b = HasTail g s b

-- A call that runs out of memory says nothing about the volume.
abbrev pub Refuses : Geometry → Stored → MountRefusal → Type 0
Refuses g s (Corrupt cause b) = IsCorrupt g s cause b
Refuses g s OutOfMemory = Unit {0}
