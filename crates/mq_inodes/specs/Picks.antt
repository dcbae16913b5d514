-- Free blocks in the order in which a session takes them.
use Rattle.std.specs.Prelude.{◌≡◌, ◌<◌, ◌≤◌, ℕ, List, [], ◌∷◌, length, take, if◌then◌else◌}
use Rattle.mq_blocks.specs.Geometry.{homes_of, meta_of, queues_of}
use Rattle.mq_blocks.specs.declared.geometry.Geometry.{Geometry}
use Rattle.mq_inodes.specs.Changes.{zone_in}
use Rattle.mq_inodes.specs.Pages.{IsHeld, Pages}
use Rattle.mq_layout.specs.Places.{zone_bitmap}
use Rattle.mq_tree.specs.Free.{count_free, order}
use Rattle.mq_tree.specs.Looks.{before}
use Rattle.mq_tree.specs.Volume.{Volume, is_taken}

-- those of the blocks that are free, in order
abbrev pub free_of : Volume → List ℕ → List ℕ
free_of v [] = []
free_of v (b ∷ bs) = if is_taken v b then free_of v bs else b ∷ free_of v bs

-- the first `count` blocks that a session of this queue finds free
pub record ArePicked (g : Geometry) (q : ℕ) (v : Volume) (count : ℕ) (picks : List ℕ) : Type 0 where
  pub enough : length picks ≡ count
  pub first : picks ≡ take count (free_of v (order g q))

-- the bitmap of a zone before which fewer than `count` blocks are free
pub record IsSearched (g : Geometry) (q : ℕ) (v : Volume) (count b : ℕ) : Type 0 where
  pub zone : ℕ
  pub inside : zone < queues_of g
  pub few : count_free v (before g q zone) < count
  pub is : b ≡ zone_bitmap zone

-- a block of the zones, whose bitmap is held
pub record IsMarkable (g : Geometry) (pages : Pages) (b : ℕ) : Type 0 where
  pub high : meta_of g ≤ b
  pub home : b < homes_of g
  pub marks : IsHeld pages (zone_bitmap (zone_in g b))
