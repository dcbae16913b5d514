-- What holds of stored home blocks that have a tree, one record for each phase of a mount.
use Rattle.std.specs.Prelude.{◌≡◌, ◌≢◌, ℕ, ◌+◌, ◌*◌, ◌<◌, ◌≤◌, true, List, slice_index, Some}
use Rattle.mq_blocks.specs.Blocks.{block_at}
use Rattle.mq_blocks.specs.Geometry.{homes_of, meta_of, queues_of, zone_size}
use Rattle.mq_blocks.specs.Windows.{Shows as ShowsBytes}
use Rattle.mq_blocks.specs.declared.geometry.Geometry.{Geometry}
use Rattle.mq_layout.specs.Bits.{bit_of}
use Rattle.mq_layout.specs.Fields.{zero_bytes}
use Rattle.mq_layout.specs.Inodes.{ShowsInode}
use Rattle.mq_layout.specs.Places.{inode_bitmap, inode_block, inode_place, inodes_of, table_first, zone_bitmap}
use Rattle.mq_layout.specs.Slots.{Entry, ShowsSlot}
use Rattle.mq_layout.specs.Superblock.{super_bytes}
use Rattle.mq_layout.specs.declared.inode.Inode.{Inode}
use Rattle.mq_tree.specs.Decoded.{Stored, byte_of, count_of, part, pointer_to, slot_of, the_inode, volume_in}
use Rattle.mq_tree.specs.Laid.{ShowsMarks, inode_marked, zone_marked}
use Rattle.mq_tree.specs.Links.{links_to}
use Rattle.mq_tree.specs.Volume.{ADir, Use, Volume, Way, block_in, body, inode_at, is_used, slot, thing}

-- no bit of a bitmap from this one on is set
abbrev pub NoneFrom : List ℕ → (first : ℕ) → Type 0
NoneFrom block first = (k : ℕ) → first ≤ k → k < 32768 → bit_of block k ≡ 0

-- superblock, bitmaps and inode table are in their forms, and inode 0 is a directory
pub record IsTable (g : Geometry) (s : Stored) : Type 0 where
  pub super : block_at s 0 ≡ super_bytes g
  pub zones : (zone : ℕ) → zone < queues_of g → NoneFrom (block_at s (zone_bitmap zone)) (zone_size g)
  pub marks : NoneFrom (block_at s (inode_bitmap g)) (inodes_of g)
  pub inodes : (i : ℕ) → i < inodes_of g
      → ShowsInode (block_at s (inode_block g i)) (inode_place i) (the_inode g s i)
  -- the blocks past that of the last inode
  pub rest : (b k : ℕ) → table_first g + 1024 ≤ b → b < meta_of g → slice_index (block_at s b) k ≡ 0
  pub root : (the_inode g s 0).kind ≡ 2

abbrev pub IsInZone : Geometry → ℕ → Type 0
IsInZone g b = (meta_of g ≤ b) × (b < homes_of g)

-- an inode has just the pointers for its blocks, each to a block of a zone
pub record HasPointers (g : Geometry) (s : Stored) (n : Inode) : Type 0 where
  pub there : (k : ℕ) → k < count_of n → IsInZone g (pointer_to s n k)
  pub direct : (k : ℕ) → count_of n ≤ k → k < 12 → slice_index n.direct k ≡ 0
  pub many : 12 < count_of n → IsInZone g n.indirect
  pub few : count_of n ≤ 12 → n.indirect ≡ 0
  pub rest : (k : ℕ) → 12 < count_of n → count_of n ≤ k → k < 1036 → pointer_to s n k ≡ 0

abbrev pub ArePointers : Geometry → Stored → Type 0
ArePointers g s = (i : ℕ) → i < inodes_of g → HasPointers g s (the_inode g s i)

-- no block is used twice
abbrev pub AreApart : Volume → Type 0
AreApart v = (u w : Use) (b : ℕ) → block_in v u ≡ Some b → block_in v w ≡ Some b → u ≡ w

-- a block of slots is in its form
pub record IsDirBlock (block : List ℕ) : Type 0 where
  pub slots : (at : ℕ) → at < 15 → ShowsSlot block at (slot_of block at)
  pub rest : ShowsBytes block 4080 (zero_bytes 16)

-- directories have such blocks
abbrev pub AreDirs : Geometry → Stored → Type 0
AreDirs g s =
    (i place : ℕ) → i < inodes_of g → (the_inode g s i).kind ≡ 2 → place < count_of (the_inode g s i)
    → IsDirBlock (part s (the_inode g s i) place)

-- slots name used inodes, and not the root
abbrev pub AreNamed : Volume → Type 0
AreNamed v = (d k : ℕ) (e : Entry) → slot v d k ≡ Some e → (e.inode ≢ 0) × (is_used (body v e.inode) ≡ true)

-- no name stands twice in a directory
abbrev pub AreOnce : Volume → Type 0
AreOnce v = (d k l : ℕ) (e f : Entry) → slot v d k ≡ Some e → slot v d l ≡ Some f → e.name ≡ f.name → k ≡ l

-- one slot alone names a directory
abbrev pub AreNamedOnce : Volume → Type 0
AreNamedOnce v =
    (d k c l : ℕ) (e f : Entry) → slot v d k ≡ Some e → slot v c l ≡ Some f → e.inode ≡ f.inode
    → thing (body v e.inode) ≡ Some ADir → (d ≡ c) × (k ≡ l)

-- a path leads to each used inode, and one slot alone names a directory
pub record AreReached (v : Volume) : Type 0 where
  pub once : AreNamedOnce v
  pub reached : (i : ℕ) → is_used (body v i) ≡ true → (way : Way) × (inode_at v way ≡ Some i)

-- a file's links are as many as the slots that name it
abbrev pub AreLinked : Geometry → Stored → Type 0
AreLinked g s =
    (i : ℕ) → i < inodes_of g → (the_inode g s i).kind ≡ 1
    → (the_inode g s i).links ≡ links_to (volume_in g s) i

-- just what is used is marked
pub record AreMarked (g : Geometry) (s : Stored) : Type 0 where
  pub zones : (zone : ℕ) → zone < queues_of g
      → ShowsMarks (block_at s (zone_bitmap zone)) (zone_marked g (volume_in g s) zone)
  pub inodes : ShowsMarks (block_at s (inode_bitmap g)) (inode_marked (volume_in g s))

-- the bytes past the end of a file are zeros
abbrev pub AreEnded : Geometry → Stored → Type 0
AreEnded g s =
    (i k : ℕ) → i < inodes_of g → (the_inode g s i).kind ≡ 1 → (the_inode g s i).size ≤ k
    → k < 4096 * count_of (the_inode g s i) → byte_of s (the_inode g s i) k ≡ 0

pub record IsClean (g : Geometry) (s : Stored) : Type 0 where
  pub table : IsTable g s
  pub pointers : ArePointers g s
  pub apart : AreApart (volume_in g s)
  pub dirs : AreDirs g s
  pub named : AreNamed (volume_in g s)
  pub names : AreOnce (volume_in g s)
  pub reached : AreReached (volume_in g s)
  pub linked : AreLinked g s
  pub marked : AreMarked g s
  pub ended : AreEnded g s
