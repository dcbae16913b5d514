-- Pages that change, one after another, from those of one volume to those of another.
use Rattle.std.specs.Prelude.{◌≡◌, ◌≢◌, ◌⊎◌, ◌<◌, ◌↔◌, ◌≤◌, ⊤, ℕ, ◌+◌, ◌-◌, ◌*◌, ◌/◌, ◌%◌, Bool, true, false, List, Option, Some, None, if◌then◌else◌}
use Rattle.std.specs.Int.{to_le_bytes, w32}
use Rattle.mq_blocks.specs.Blocks.{zeros}
use Rattle.mq_blocks.specs.Geometry.{meta_of, queues_of, zone_size}
use Rattle.mq_blocks.specs.Journal.{is_among}
use Rattle.mq_blocks.specs.Windows.{written}
use Rattle.mq_blocks.specs.declared.geometry.Geometry.{Geometry}
use Rattle.mq_inodes.specs.Fits.{Fits}
use Rattle.mq_inodes.specs.Pages.{Pages}
use Rattle.mq_layout.specs.Bits.{bit_of, pointer_of}
use Rattle.mq_layout.specs.Inodes.{inode_bytes}
use Rattle.mq_layout.specs.Places.{inode_bitmap, inode_block, inode_place, zone_bitmap}
use Rattle.mq_layout.specs.declared.inode.Inode.{Inode}
use Rattle.mq_tree.specs.Laid.{IsPage, IsVacant, ShowsPage, ShowsUse, inode_of, zone_block}
use Rattle.mq_tree.specs.Volume.{File, Use, Part, Pointers, Volume, block_in, body, has_block, is_used, node}

-- what is known of a block fits the volume
abbrev pub FitsAt : Geometry → Option (Option (List ℕ)) → Volume → ℕ → Type 0
FitsAt g None v b = ⊤
FitsAt g (Some None) v b = IsVacant g v b
FitsAt g (Some (Some page)) v b = ShowsPage g v b page

-- The pages fit the volume, except perhaps at these blocks.
abbrev pub FitsBut : Geometry → Pages → Volume → (blocks : List ℕ) → Type 0
FitsBut g pages v blocks = (b : ℕ) → is_among b blocks ≡ false → FitsAt g (pages b) v b

-- a page was put there, with content or free, and no other changed
pub record IsPut (old new : Pages) (b : ℕ) (page : Option (List ℕ)) : Type 0 where
  pub here : new b ≡ Some page
  pub others : (x : ℕ) → x ≢ b → new x ≡ old x

-- no inode but this one changes
abbrev pub AreOthers : (v w : Volume) → ℕ → Type 0
AreOthers v w i = (x : ℕ) → x ≢ i → node w x ≡ node v x

-- The volumes show the same pages at a block, or both have none there.
pub record SameAt (g : Geometry) (v w : Volume) (b : ℕ) : Type 0 where
  pub shows : (page : List ℕ) → ShowsPage g v b page ↔ ShowsPage g w b page
  pub vacant : IsVacant g v b ↔ IsVacant g w b

-- the block has a part of a file
pub record IsOfFile (v : Volume) (b : ℕ) : Type 0 where
  pub inode : ℕ
  pub place : ℕ
  pub bytes : List ℕ
  pub there : block_in v (Part inode place) ≡ Some b
  pub is : body v inode ≡ File bytes

-- the inode for which a block is used
abbrev pub owner : Use → ℕ
owner (Part i place) = i
owner (Pointers i) = i

-- both volumes use the block so, and show the same there
pub record IsKept (v w : Volume) (b : ℕ) : Type 0 where
  pub purpose : Use
  pub before : block_in v purpose ≡ Some b
  pub after : block_in w purpose ≡ Some b
  pub shows : (page : List ℕ) → ShowsUse v purpose page ↔ ShowsUse w purpose page

-- One inode changes, and what is shown changes at these blocks alone.
pub record ChangesAt (g : Geometry) (v w : Volume) (i : ℕ) (blocks : List ℕ) : Type 0 where
  pub others : AreOthers v w i
  -- of its own blocks
  pub own : (b : ℕ) → is_among b blocks ≡ false
      → ((has_block (node v i) b ≡ false) × (has_block (node w i) b ≡ false)) ⊎ IsKept v w b
  -- of the bitmaps of the zones
  pub marks : (zone k : ℕ) → zone < queues_of g → k < zone_size g
      → is_among (zone_bitmap zone) blocks ≡ false
      → has_block (node v i) (zone_block g zone k) ≡ has_block (node w i) (zone_block g zone k)
  pub inode_marks : is_among (inode_bitmap g) blocks ≡ false → is_used (body v i) ≡ is_used (body w i)
  pub table : is_among (inode_block g i) blocks ≡ false → inode_of (node v i) ≡ inode_of (node w i)

-- the zone in which a block is, and its bit there
abbrev pub zone_in : Geometry → ℕ → ℕ
zone_in g b = (b - meta_of g) / zone_size g

abbrev pub bit_in : Geometry → ℕ → ℕ
bit_in g b = (b - meta_of g) % zone_size g

-- The bit of a block was set, and zeros stand there.
pub record IsTakenIn (g : Geometry) (old new : Pages) (b : ℕ) : Type 0 where
  pub before : List ℕ
  pub after : List ℕ
  pub marked : Pages
  pub was : old (zone_bitmap (zone_in g b)) ≡ Some (Some before)
  pub marks : IsPut old marked (zone_bitmap (zone_in g b)) (Some after)
  pub form : IsPage after
  pub set : bit_of after (bit_in g b) ≡ 1
  pub rest : (k : ℕ) → k ≢ bit_in g b → bit_of after k ≡ bit_of before k
  pub blank : IsPut marked new b (Some zeros)

-- An inode was written at its place.
pub record IsInodePut (g : Geometry) (old new : Pages) (i : ℕ) (inode : Inode) : Type 0 where
  pub before : List ℕ
  pub after : List ℕ
  pub was : old (inode_block g i) ≡ Some (Some before)
  pub put : IsPut old new (inode_block g i) (Some after)
  pub form : IsPage after
  pub is : after ≡ written before (128 * inode_place i) (inode_bytes inode)

-- A pointer was set in a block of pointers.
pub record IsPointerPut (old new : Pages) (p at x : ℕ) : Type 0 where
  pub before : List ℕ
  pub after : List ℕ
  pub was : old p ≡ Some (Some before)
  pub put : IsPut old new p (Some after)
  pub form : IsPage after
  pub is : after ≡ written before (4 * at) (to_le_bytes w32 x)

-- The bit of a block was set or cleared.
pub record IsBlockMarked (g : Geometry) (old new : Pages) (b : ℕ) (value : Bool) : Type 0 where
  pub before : List ℕ
  pub after : List ℕ
  pub was : old (zone_bitmap (zone_in g b)) ≡ Some (Some before)
  pub put : IsPut old new (zone_bitmap (zone_in g b)) (Some after)
  pub form : IsPage after
  pub bit : bit_of after (bit_in g b) ≡ (if value then 1 else 0)
  pub rest : (k : ℕ) → k ≢ bit_in g b → bit_of after k ≡ bit_of before k

-- Bytes were written at a place of a page.
pub record IsTextPut (old new : Pages) (b at : ℕ) (text : List ℕ) : Type 0 where
  pub before : List ℕ
  pub after : List ℕ
  pub was : old b ≡ Some (Some before)
  pub put : IsPut old new b (Some after)
  pub form : IsPage after
  pub is : after ≡ written before at text

-- The bit of an inode was set or cleared.
pub record IsInodeMarked (g : Geometry) (old new : Pages) (i : ℕ) (value : Bool) : Type 0 where
  pub before : List ℕ
  pub after : List ℕ
  pub was : old (inode_bitmap g) ≡ Some (Some before)
  pub put : IsPut old new (inode_bitmap g) (Some after)
  pub form : IsPage after
  pub bit : bit_of after i ≡ (if value then 1 else 0)
  pub rest : (k : ℕ) → k ≢ i → bit_of after k ≡ bit_of before k

-- Content turned into other content.
pub record Turns (old new : Pages) (b : ℕ) (before after : List ℕ) : Type 0 where
  pub was : old b ≡ Some (Some before)
  pub now : new b ≡ Some (Some after)
  pub form : IsPage after

-- The bits of the blocks of a zone that are gone were cleared.
pub record IsCleared (g : Geometry) (old new : Pages) (zone : ℕ) (gone : ℕ → Bool) : Type 0 where
  pub before : List ℕ
  pub after : List ℕ
  pub turns : Turns old new (zone_bitmap zone) before after
  pub clear : (k : ℕ) → k < zone_size g → gone (zone_block g zone k) ≡ true → bit_of after k ≡ 0
  pub rest : (k : ℕ) → (k < zone_size g → gone (zone_block g zone k) ≡ false)
      → bit_of after k ≡ bit_of before k

-- An inode was written, among other changes.
pub record IsInodeTurned (g : Geometry) (old new : Pages) (i : ℕ) (inode : Inode) : Type 0 where
  pub before : List ℕ
  pub after : List ℕ
  pub turns : Turns old new (inode_block g i) before after
  pub is : after ≡ written before (128 * inode_place i) (inode_bytes inode)

-- The bit of an inode was set or cleared, among other changes.
pub record IsMarkTurned (g : Geometry) (old new : Pages) (i : ℕ) (value : Bool) : Type 0 where
  pub before : List ℕ
  pub after : List ℕ
  pub turns : Turns old new (inode_bitmap g) before after
  pub bit : bit_of after i ≡ (if value then 1 else 0)
  pub rest : (k : ℕ) → k ≢ i → bit_of after k ≡ bit_of before k

-- The pointers from the one past the last were cleared, among other changes.
pub record IsPointersCut (old new : Pages) (p count : ℕ) : Type 0 where
  pub before : List ℕ
  pub after : List ℕ
  pub turns : Turns old new p before after
  pub left : (k : ℕ) → k < 1024 → 12 + k < count → pointer_of after k ≡ pointer_of before k
  pub cut : (k : ℕ) → k < 1024 → count ≤ 12 + k → pointer_of after k ≡ 0

-- Pages of one volume became pages of another, which shows something else at these blocks alone.
pub record Stepped (g : Geometry) (v w : Volume) (new : Pages) (blocks : List ℕ) : Type 0 where
  pub fits : Fits g new w
  pub same : (b : ℕ) → is_among b blocks ≡ false → SameAt g v w b
  -- the other blocks have parts of files as before
  pub files : (b : ℕ) → is_among b blocks ≡ false → IsOfFile v b ↔ IsOfFile w b
