-- What holds of every volume.
use Rattle.std.specs.Prelude.{◌≡◌, ◌≢◌, ℕ, ◌+◌, ◌*◌, ◌/◌, ◌<◌, ◌≤◌, List, length, slice_index, slice_index_or, Option, Some, None, is_some, nat_lt, true}
use Rattle.mq_blocks.specs.Geometry.{meta_of, homes_of}
use Rattle.mq_blocks.specs.declared.geometry.Geometry.{Geometry}
use Rattle.mq_layout.specs.Places.{file_limit, inodes_of}
use Rattle.mq_layout.specs.Slots.{Entry, IsEntry}
use Rattle.mq_tree.specs.Links.{AreCounted, HasLinks}
use Rattle.mq_tree.specs.Volume.{ADir, Body, Free, File, Dir, Node, Volume, node, body, is_used, slot, inode_at, thing, Way, Use, block_in}

-- how many blocks this number of bytes takes
abbrev pub blocks_for : ℕ → ℕ
blocks_for size = (size + 4095) / 4096

abbrev pub AreBytes : List ℕ → Type 0
AreBytes bytes = (k : ℕ) → slice_index bytes k < 256

-- each used slot has an entry in its form
abbrev pub AreEntries : List (Option Entry) → Type 0
AreEntries slots = (k : ℕ) (e : Entry) → slice_index_or slots k None ≡ Some e → IsEntry e

-- A body over this number of blocks. A file has just the blocks that its bytes take, and at most 4,243,456
-- bytes, which is 1,036 blocks. A directory has 15 slots in each block.
abbrev pub IsBody : Body → ℕ → Type 0
IsBody Free count = count ≡ 0
IsBody (File bytes) count =
    (length bytes ≤ file_limit) × (count ≡ blocks_for (length bytes)) × AreBytes bytes
IsBody (Dir slots) count = (count ≤ 1036) × (length slots ≡ 15 * count) × AreEntries slots

-- There is a block of pointers exactly where there are more than twelve blocks.
pub record IsNode (n : Node) : Type 0 where
  pub body : IsBody n.body (length n.blocks)
  pub indirect : is_some n.indirect ≡ nat_lt 12 (length n.blocks)
  pub links : HasLinks n.body n.links

pub record IsSound (g : Geometry) (v : Volume) : Type 0 where
  pub count : length v ≡ inodes_of g
  pub nodes : (i : ℕ) → IsNode (node v i)
  -- inode 0 is a directory
  pub root : (slots : List (Option Entry)) × (body v 0 ≡ Dir slots)
  -- blocks are those of the zones, and none is used twice
  pub zones : (u : Use) (b : ℕ) → block_in v u ≡ Some b → (meta_of g ≤ b) × (b < homes_of g)
  pub apart : (u w : Use) (b : ℕ) → block_in v u ≡ Some b → block_in v w ≡ Some b → u ≡ w
  -- a slot names a used inode, which is not the root, and no other slot names a directory
  pub named : (d k : ℕ) (e : Entry) → slot v d k ≡ Some e
      → (e.inode ≢ 0) × (is_used (body v e.inode) ≡ true)
  pub once : (d k c l : ℕ) (e f : Entry) → slot v d k ≡ Some e → slot v c l ≡ Some f → e.inode ≡ f.inode
      → thing (body v e.inode) ≡ Some ADir → (d ≡ c) × (k ≡ l)
  -- no name stands twice in a directory
  pub names : (d k l : ℕ) (e f : Entry) → slot v d k ≡ Some e → slot v d l ≡ Some f → e.name ≡ f.name
      → k ≡ l
  -- a path leads to each used inode
  pub reached : (i : ℕ) → is_used (body v i) ≡ true → (way : Way) × (inode_at v way ≡ Some i)
  pub counted : AreCounted v
