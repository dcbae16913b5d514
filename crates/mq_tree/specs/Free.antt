-- Free blocks and inodes, and which of them are taken.
use Rattle.std.specs.Prelude.{ℕ, zero, suc, ◌+◌, ◌-◌, ◌*◌, ◌&&◌, List, [], ◌∷◌, ◌++◌, length, slice_set, Option, Some, None, if◌then◌else◌, nat_eq, nat_lt, nat_le}
use Rattle.std.specs.List.{range_with_len}
use Rattle.mq_blocks.specs.Geometry.{meta_of, queues_of, zone_size}
use Rattle.mq_blocks.specs.declared.geometry.Geometry.{Geometry}
use Rattle.mq_tree.specs.Laid.{zone_block}
use Rattle.mq_tree.specs.Volume.{Volume, is_taken, is_used, node}

-- the least free inode
abbrev pub first_free : ℕ → Volume → Option ℕ
first_free i [] = None
first_free i (n ∷ v) = if is_used n.body then first_free (suc i) v else Some i

-- how many of these blocks are free
abbrev pub count_free : Volume → List ℕ → ℕ
count_free v [] = 0
count_free v (b ∷ bs) = if is_taken v b then count_free v bs else suc (count_free v bs)

abbrev pub zone_blocks : Geometry → (zone : ℕ) → List ℕ
zone_blocks g zone = range_with_len (zone_block g zone 0) (zone_size g)

-- in all zones
abbrev pub free_blocks : Geometry → Volume → ℕ
free_blocks g v = count_free v (range_with_len (meta_of g) (queues_of g * zone_size g))

-- the blocks of a queue's own zone, then those of the other zones by rising zone
abbrev pub order : Geometry → (queue : ℕ) → List ℕ
order g q =
    zone_blocks g q ++ range_with_len (meta_of g) (q * zone_size g)
    ++ range_with_len (zone_block g (suc q) 0) ((queues_of g - suc q) * zone_size g)

-- the first of these blocks that is free
abbrev pub first_of : Volume → List ℕ → Option ℕ
first_of v [] = None
first_of v (b ∷ bs) = if is_taken v b then first_of v bs else Some b

-- how many blocks are taken to have more than there are, where more than twelve need a block of pointers
abbrev pub needs : (have want : ℕ) → ℕ
needs have want = (want - have) + (if nat_le have 12 && nat_lt 12 want then 1 else 0)

abbrev pub with_block : Volume → ℕ → Option ℕ → Volume
with_block v i None = v
with_block v i (Some b) =
    slice_set v i
    (record {
      body = (node v i).body;
      blocks = (node v i).blocks ++ b ∷ [];
      indirect = (node v i).indirect;
      links = (node v i).links;
    })

abbrev pub with_pointers : Volume → ℕ → Option ℕ → Volume
with_pointers v i None = v
with_pointers v i (Some b) =
    slice_set v i
    (record {
      body = (node v i).body;
      blocks = (node v i).blocks;
      indirect = Some b;
      links = (node v i).links;
    })

-- right before the thirteenth block, a block of pointers is taken
abbrev pub pointed : Geometry → (queue : ℕ) → Volume → ℕ → Volume
pointed g q v i =
    if nat_eq (length (node v i).blocks) 12 then with_pointers v i (first_of v (order g q)) else v

abbrev pub one_more : Geometry → (queue : ℕ) → Volume → ℕ → Volume
one_more g q v i = with_block v i (first_of v (order g q))

-- an inode with `count` blocks more, each the first that is free then
abbrev pub grown : Geometry → (queue : ℕ) → Volume → ℕ → (count : ℕ) → Volume
grown g q v i zero = v
grown g q v i (suc count) = grown g q (one_more g q (pointed g q v i) i) i count
