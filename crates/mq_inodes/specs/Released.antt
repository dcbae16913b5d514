-- Blocks that are freed, and what of an inode is left.
use Rattle.std.specs.Prelude.{◌≡◌, ◌≢◌, ◌<◌, ◌≤◌, ℕ, Bool, true, false, List, [], ◌∷◌, ◌++◌, drop, length, slice_index, Some, None, nat_lt, if◌then◌else◌}
use Rattle.mq_blocks.specs.Geometry.{homes_of, meta_of, queues_of, zone_size}
use Rattle.mq_blocks.specs.Journal.{is_among}
use Rattle.mq_blocks.specs.declared.geometry.Geometry.{Geometry}
use Rattle.mq_inodes.specs.Changes.{IsPointersCut, zone_in}
use Rattle.mq_inodes.specs.Edits.{IsOver}
use Rattle.mq_inodes.specs.Pages.{Pages, kinds_of, pages_of}
use Rattle.mq_inodes.specs.declared.opened.Opened.{Opened}
use Rattle.mq_inodes.specs.declared.working.Working.{Working}
use Rattle.mq_layout.specs.Bits.{bit_of}
use Rattle.mq_layout.specs.Places.{zone_bitmap}
use Rattle.mq_layout.specs.declared.inode.Inode.{Inode}
use Rattle.mq_pages.specs.declared.page.Kind.TheVariants.{Meta}
use Rattle.mq_tree.specs.Laid.{IsPage, zone_block}

-- the bits of the blocks of a zone that are gone are clear, and the others as they were
pub record ClearsBits (g : Geometry) (new : Pages) (zone : ℕ) (before : List ℕ)
    (gone : ℕ → Bool) : Type 0 where
  pub after : List ℕ
  pub now : new (zone_bitmap zone) ≡ Some (Some after)
  pub form : IsPage before → IsPage after
  pub clear : (k : ℕ) → k < zone_size g → gone (zone_block g zone k) ≡ true → bit_of after k ≡ 0
  pub rest : (k : ℕ) → (k < zone_size g → gone (zone_block g zone k) ≡ false)
      → bit_of after k ≡ bit_of before k

-- Nothing stands at these blocks of the zones, and their bits are clear. No other page changed.
pub record IsReleased (g : Geometry) (old new : Pages) (blocks : List ℕ) : Type 0 where
  pub inside : (b : ℕ) → is_among b blocks ≡ true → (meta_of g ≤ b) × (b < homes_of g)
  pub free : (b : ℕ) → is_among b blocks ≡ true → new b ≡ Some None
  pub marks : (zone : ℕ) (before : List ℕ) → zone < queues_of g
      → old (zone_bitmap zone) ≡ Some (Some before)
      → ClearsBits g new zone before (λ b. is_among b blocks)
  pub rest : (b : ℕ) → is_among b blocks ≡ false
      → ((c : ℕ) → is_among c blocks ≡ true → b ≢ zone_bitmap (zone_in g c)) → new b ≡ old b

-- Blocks were freed.
pub record Releases (old new : Working) (blocks : List ℕ) : Type 0 where
  pub over : IsOver old new
  pub pages : IsReleased old.geometry (pages_of old) (pages_of new) blocks
  pub none : (b : ℕ) → is_among b blocks ≡ true → kinds_of new b ≡ None
  pub kinds : (b : ℕ) → meta_of old.geometry ≤ b → is_among b blocks ≡ false
      → kinds_of new b ≡ kinds_of old b

-- the blocks of an inode from this one on, and that of its pointers where no more than twelve are left
abbrev pub gone_from : Opened → (count : ℕ) → List ℕ
gone_from o count =
    drop count o.blocks.items
    ++ (if nat_lt 12 count then []
    else (if nat_lt 12 (length o.blocks.items) then o.inode.indirect ∷ [] else []))

-- The pointers past `count` blocks were cleared, where there are more than twelve and a file had more.
pub record CutsPointers (old new : Working) (p have count : ℕ) : Type 0 where
  pub over : IsOver old new
  pub cut : 12 < count → count < have → IsPointersCut (pages_of old) (pages_of new) p count
  pub kind : 12 < count → count < have → kinds_of new p ≡ Some Meta
  pub others : (x : ℕ) → (12 < count → count < have → x ≢ p) → pages_of new x ≡ pages_of old x
  pub kinds : (x : ℕ) → (12 < count → count < have → x ≢ p) → kinds_of new x ≡ kinds_of old x

-- an inode that was cut to `count` blocks
pub record IsCutInode (old new : Inode) (count size : ℕ) : Type 0 where
  pub kind : new.kind ≡ old.kind
  pub links : new.links ≡ old.links
  pub size_is : new.size ≡ size
  pub twelve : length new.direct ≡ 12
  pub left : (k : ℕ) → k < 12 → k < count → slice_index new.direct k ≡ slice_index old.direct k
  pub gone : (k : ℕ) → k < 12 → count ≤ k → slice_index new.direct k ≡ 0
  pub indirect : new.indirect ≡ (if nat_lt 12 count then old.indirect else 0)
