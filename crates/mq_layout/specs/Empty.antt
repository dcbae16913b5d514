-- The empty file system: its root has no names, and no blocks.
use Rattle.std.specs.Prelude.{ℕ, List, [], ◌∷◌, nat_eq, if◌then◌else◌, replicate}
use Rattle.mq_blocks.specs.Blocks.{zeros}
use Rattle.mq_blocks.specs.Windows.{written}
use Rattle.mq_blocks.specs.declared.geometry.Geometry.{Geometry}
use Rattle.mq_layout.specs.Inodes.{inode_bytes}
use Rattle.mq_layout.specs.Places.{inode_bitmap, table_first}
use Rattle.mq_layout.specs.Superblock.{super_bytes}
use Rattle.mq_layout.specs.declared.inode.Inode.{Inode}

abbrev pub free_inode : Inode
free_inode = record { kind = 0; links = 0; size = 0; direct = replicate 12 0; indirect = 0 }

abbrev pub empty_root : Inode
empty_root = record { kind = 2; links = 1; size = 0; direct = replicate 12 0; indirect = 0 }

-- Its home block of this number. Inode 0 is used, and no other.
unfoldable pub empty_block : Geometry → ℕ → List ℕ
empty_block g b =
    if nat_eq b 0 then super_bytes g
    else (if nat_eq b (inode_bitmap g) then written zeros 0 (1 ∷ [])
    else (if nat_eq b (table_first g) then written zeros 0 (inode_bytes empty_root) else zeros))
