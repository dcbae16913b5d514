-- What stored home blocks say, whatever they hold.
use Rattle.std.specs.Prelude.{ℕ, ◌+◌, ◌-◌, ◌*◌, ◌/◌, ◌%◌, List, map, slice_index, Option, Some, None, if◌then◌else◌, nat_eq, nat_lt}
use Rattle.std.specs.List.{range_with_len}
use Rattle.mq_blocks.specs.Blocks.{block_at}
use Rattle.mq_blocks.specs.Windows.{number_at, window}
use Rattle.mq_blocks.specs.declared.geometry.Geometry.{Geometry}
use Rattle.mq_layout.specs.Bits.{pointer_of}
use Rattle.mq_layout.specs.Inodes.{inode_at}
use Rattle.mq_layout.specs.Places.{inode_block, inode_place, inodes_of}
use Rattle.mq_layout.specs.Slots.{Entry}
use Rattle.mq_layout.specs.declared.inode.Inode.{Inode}
use Rattle.mq_tree.specs.Sound.{blocks_for}
use Rattle.mq_tree.specs.Volume.{Body, Free, File, Dir, Node, Volume}

-- the home blocks as they are stored, where an absent one is zeros
abbrev pub Stored : Type 0
Stored = List (Option (List ℕ))

-- these values at the numbers below a count
abbrev pub table_of : {X : Type 0} → (count : ℕ) → (ℕ → X) → List X
table_of count f = map f (range_with_len 0 count)

unfoldable pub the_inode : Geometry → Stored → ℕ → Inode
the_inode g s i = inode_at (128 * inode_place i) (block_at s (inode_block g i))

-- how many blocks it has
abbrev pub count_of : Inode → ℕ
count_of n = blocks_for n.size

-- the pointer to the block at this place
unfoldable pub pointer_to : Stored → Inode → (place : ℕ) → ℕ
pointer_to s n place =
    if nat_lt place 12 then slice_index n.direct place
    else pointer_of (block_at s n.indirect) (place - 12)

-- the block at this place
abbrev pub part : Stored → Inode → (place : ℕ) → List ℕ
part s n place = block_at s (pointer_to s n place)

abbrev pub entry_at : List ℕ → (from : ℕ) → Entry
entry_at block from =
    record {
      inode = number_at 4 from block;
      name = window block (from + 16) (slice_index block (from + 5));
    }

unfoldable pub slot_of : List ℕ → (at : ℕ) → Option Entry
slot_of block at =
    if nat_eq (slice_index block (272 * at + 4)) 0 then None else Some (entry_at block (272 * at))

-- the byte at an offset, and the slot of this number
abbrev pub byte_of : Stored → Inode → ℕ → ℕ
byte_of s n k = slice_index (part s n (k / 4096)) (k % 4096)

abbrev pub entry_of : Stored → Inode → ℕ → Option Entry
entry_of s n k = slot_of (part s n (k / 15)) (k % 15)

unfoldable pub body_of : Stored → Inode → Body
body_of s n =
    if nat_eq n.kind 1 then File (table_of n.size (byte_of s n))
    else (if nat_eq n.kind 2 then Dir (table_of (15 * count_of n) (entry_of s n)) else Free)

abbrev pub node_of : Stored → Inode → Node
node_of s n = record {
  body = body_of s n;
  blocks = table_of (count_of n) (pointer_to s n);
  indirect = if nat_lt 12 (count_of n) then Some n.indirect else None;
  links = n.links;
}

unfoldable pub inodes_in : Geometry → Stored → List Inode
inodes_in g s = table_of (inodes_of g) (the_inode g s)

-- the volume that the blocks say
unfoldable pub volume_in : Geometry → Stored → Volume
volume_in g s = table_of (inodes_of g) (λ i. node_of s (the_inode g s i))
