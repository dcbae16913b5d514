-- What is looked at where blocks are freed.
use Rattle.std.specs.Prelude.{◌≡◌, ◌≤◌, ◌<◌, ◌⊎◌, ℕ, true, List, [], ◌∷◌, ◌++◌, length, nat_lt, if◌then◌else◌}
use Rattle.mq_blocks.specs.Geometry.{homes_of, meta_of}
use Rattle.mq_blocks.specs.declared.geometry.Geometry.{Geometry}
use Rattle.mq_inodes.specs.Changes.{zone_in}
use Rattle.mq_inodes.specs.declared.opened.Opened.{Opened}
use Rattle.mq_layout.specs.Places.{inode_bitmap, zone_bitmap}
use Rattle.mq_tree.specs.Volume.{Volume, has_block, node}

pub record IsInZones (g : Geometry) (b : ℕ) : Type 0 where
  pub high : meta_of g ≤ b
  pub home : b < homes_of g

-- the blocks of an inode as they are known, and its block of pointers behind them
abbrev pub owned : Opened → List ℕ
owned o =
    if nat_lt 12 (length o.blocks.items) then o.blocks.items ++ o.inode.indirect ∷ []
    else o.blocks.items

-- a block of the inode, or the bitmap of its zone
abbrev pub LooksGone : Geometry → Volume → (i b : ℕ) → Type 0
LooksGone g v i b =
    (has_block (node v i) b ≡ true)
    ⊎ ((c : ℕ) × (has_block (node v i) c ≡ true) × (b ≡ zone_bitmap (zone_in g c)))

-- or the bitmap of inodes
abbrev pub LooksFreed : Geometry → Volume → (i b : ℕ) → Type 0
LooksFreed g v i b = (b ≡ inode_bitmap g) ⊎ LooksGone g v i b
