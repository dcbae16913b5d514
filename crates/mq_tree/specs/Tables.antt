-- The metadata region, block by block.
use Rattle.std.specs.Prelude.{◌≡◌, ℕ, ◌+◌, ◌<◌, ◌≤◌, slice_index}
use Rattle.mq_blocks.specs.Blocks.{block_at}
use Rattle.mq_blocks.specs.Geometry.{meta_of, queues_of, zone_size}
use Rattle.mq_blocks.specs.declared.geometry.Geometry.{Geometry}
use Rattle.mq_layout.specs.Inodes.{ShowsInode}
use Rattle.mq_layout.specs.Places.{inode_bitmap, inode_block, inode_place, inodes_of, table_first, zone_bitmap}
use Rattle.mq_layout.specs.Superblock.{super_bytes}
use Rattle.mq_tree.specs.Clean.{NoneFrom}
use Rattle.mq_tree.specs.Decoded.{Stored, the_inode}

-- the blocks of the region before this one are in their form
pub record IsTableBefore (g : Geometry) (s : Stored) (b : ℕ) : Type 0 where
  pub super : 0 < b → block_at s 0 ≡ super_bytes g
  pub zones : (zone : ℕ) → zone < queues_of g → zone_bitmap zone < b
      → NoneFrom (block_at s (zone_bitmap zone)) (zone_size g)
  pub marks : inode_bitmap g < b → NoneFrom (block_at s (inode_bitmap g)) (inodes_of g)
  pub inodes : (i : ℕ) → i < inodes_of g → inode_block g i < b
      → ShowsInode (block_at s (inode_block g i)) (inode_place i) (the_inode g s i)
  pub rest : (c k : ℕ) → table_first g + 1024 ≤ c → c < meta_of g → c < b → slice_index (block_at s c) k ≡ 0
