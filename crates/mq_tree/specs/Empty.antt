-- The empty file system.
use Rattle.std.specs.Prelude.{ℕ, ◌-◌, List, [], ◌∷◌, replicate, Option, None}
use Rattle.mq_blocks.specs.Blocks.{block_at}
use Rattle.mq_blocks.specs.declared.geometry.Geometry.{Geometry}
use Rattle.mq_layout.specs.Places.{inodes_of}
use Rattle.mq_tree.specs.Laid.{IsPage}
use Rattle.mq_tree.specs.Volume.{Dir, Node, Volume, free_node}

-- a directory without blocks
abbrev pub empty_node : Node
empty_node = record { body = Dir []; blocks = []; indirect = None; links = 1 }

-- its root is used, and no other inode
abbrev pub empty_volume : Geometry → Volume
empty_volume g = empty_node ∷ replicate (inodes_of g - 1) free_node

-- each stored block has 4,096 bytes
abbrev pub ArePages : List (Option (List ℕ)) → Type 0
ArePages stored = (b : ℕ) → IsPage (block_at stored b)
