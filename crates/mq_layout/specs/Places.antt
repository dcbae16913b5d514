-- What lies where in the metadata region: block 0 is the superblock, a bitmap for each zone and one
-- of the inodes follow, and the rest is the inode table.
use Rattle.std.specs.Prelude.{ℕ, ◌+◌, ◌-◌, ◌*◌, ◌/◌, ◌%◌, min}
use Rattle.mq_blocks.specs.Geometry.{queues_of, meta_of}
use Rattle.mq_blocks.specs.declared.geometry.Geometry.{Geometry}

-- the greatest size of a file: 12 blocks, and 1,024 through the indirect block
abbrev pub file_limit : ℕ
file_limit = 4243456

-- the most names in a directory: 15 in each of 1,036 blocks
abbrev pub names_limit : ℕ
names_limit = 15540

abbrev pub zone_bitmap : ℕ → ℕ
zone_bitmap zone = 1 + zone

abbrev pub inode_bitmap : Geometry → ℕ
inode_bitmap g = 1 + queues_of g

-- the first block of the inode table, which ends where the metadata region ends
abbrev pub table_first : Geometry → ℕ
table_first g = 2 + queues_of g

-- the inodes: 32 in each block of the table, and no more than a bitmap has bits
abbrev pub inodes_of : Geometry → ℕ
inodes_of g = min 32768 (32 * (meta_of g - table_first g))

-- the block of the table in which an inode stands, and where in it
abbrev pub inode_block : Geometry → ℕ → ℕ
inode_block g inode = table_first g + inode / 32

abbrev pub inode_place : ℕ → ℕ
inode_place inode = inode % 32
