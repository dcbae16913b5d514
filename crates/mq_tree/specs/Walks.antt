-- A walk over the directories of a volume, from the root on.
use Rattle.std.specs.Prelude.{◌≡◌, ℕ, ◌<◌, ◌⊎◌, Bool, true, false, List, [], ◌∷◌, ◌++◌, length, replicate, slice_index, slice_index_or, slice_set, Some, if◌then◌else◌}
use Rattle.std.specs.List.{sum_by}
use Rattle.mq_layout.specs.Slots.{Entry}
use Rattle.mq_tree.specs.Volume.{ADir, Volume, Way, body, inode_at, slot, thing}

abbrev pub is_seen : List Bool → ℕ → Bool
is_seen seen i = slice_index_or seen i false

abbrev pub weight : Bool → ℕ
weight b = if b then 1 else 0

-- how many inodes were seen
abbrev pub seen_count : List Bool → ℕ
seen_count seen = sum_by weight seen

-- the slots of the first inodes of the order, and the first slots of the next
abbrev pub IsLooked : List ℕ → (done part : ℕ) → (d k : ℕ) → Type 0
IsLooked order done part d k =
    ((j : ℕ) × (j < done) × (slice_index order j ≡ d)) ⊎ ((slice_index order done ≡ d) × (k < part))

-- The walk so far. The order has just what was seen, each once.
pub record IsOrder (count : ℕ) (seen : List Bool) (order : List ℕ) : Type 0 where
  pub size : length seen ≡ count
  pub counted : seen_count seen ≡ length order
  pub below : (j : ℕ) → j < length order → slice_index order j < count
  pub marked : (j : ℕ) → j < length order → is_seen seen (slice_index order j) ≡ true
  pub listed : (i : ℕ) → is_seen seen i ≡ true → (j : ℕ) × (j < length order) × (slice_index order j ≡ i)

-- Paths lead to what was seen, and what the slots that were looked at name was seen.
pub record IsWalk (v : Volume) (seen : List Bool) (looked : ℕ → ℕ → Type 0) : Type 0 where
  pub reached : (i : ℕ) → is_seen seen i ≡ true → (way : Way) × (inode_at v way ≡ Some i)
  pub root : is_seen seen 0 ≡ true
  pub closed : (d k : ℕ) (e : Entry) → looked d k → slot v d k ≡ Some e → is_seen seen e.inode ≡ true

-- so far as all slots of the first inodes of the order, and the first slots of the next
pub record Walked (v : Volume) (count : ℕ) (seen : List Bool) (order : List ℕ)
    (done part : ℕ) : Type 0 where
  pub listing : IsOrder count seen order
  pub walk : IsWalk v seen (IsLooked order done part)

-- A walk to its end: what was seen is what paths lead to, and no two slots of such directories name one
-- directory.
pub record IsWholeWalk (v : Volume) (seen : List Bool) : Type 0 where
  pub reached : (i : ℕ) → is_seen seen i ≡ true → (way : Way) × (inode_at v way ≡ Some i)
  pub all : (way : Way) (i : ℕ) → inode_at v way ≡ Some i → is_seen seen i ≡ true
  pub once : (d k c l : ℕ) (e f : Entry) → is_seen seen d ≡ true → is_seen seen c ≡ true
      → slot v d k ≡ Some e → slot v c l ≡ Some f → e.inode ≡ f.inode
      → thing (body v e.inode) ≡ Some ADir → (d ≡ c) × (k ≡ l)

-- a walk that found the root alone
pub record Starts (count : ℕ) (seen : List Bool) (order : List ℕ) : Type 0 where
  pub first : order ≡ 0 ∷ []
  pub marks : seen ≡ slice_set (replicate count false) 0 true

-- an inode is found, or was before
abbrev pub Finds : (inode : ℕ) → (seen : List Bool) (order : List ℕ) (after : List Bool) (next : List ℕ)
    → Type 0
Finds i seen order after next =
    ((is_seen seen i ≡ false) × (after ≡ slice_set seen i true) × (next ≡ order ++ i ∷ []))
    ⊎ ((is_seen seen i ≡ true) × (after ≡ seen) × (next ≡ order))
