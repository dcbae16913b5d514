-- Working pages that are edited, and the volumes that they carry.
use Rattle.std.specs.Prelude.{◌≡◌, ◌≢◌, ◌≤◌, ◌↔◌, ℕ, Option, Some, None}
use Rattle.mq_blocks.specs.Geometry.{meta_of}
use Rattle.mq_blocks.specs.declared.geometry.Geometry.{Geometry}
use Rattle.mq_inodes.specs.Fits.{Fits}
use Rattle.mq_inodes.specs.Changes.{IsOfFile, SameAt}
use Rattle.mq_inodes.specs.Pages.{IsHeld, Pages, kinds_of, pages_of, view_of}
use Rattle.mq_inodes.specs.declared.working.Working.{Working}
use Rattle.mq_layout.specs.Places.{inodes_of}
use Rattle.mq_pages.specs.declared.page.Kind.{Kind}
use Rattle.mq_pages.specs.declared.page.Kind.TheVariants.{Data}
use Rattle.mq_tree.specs.Volume.{Volume}
use Rattle.mq_tree.specs.Uses.{AreUses}
use Rattle.std.specs.Prelude.{length}

-- ---- pages

-- the same view stands below
pub record IsSameView (old new : Working) : Type 0 where
  pub geometry : new.geometry ≡ old.geometry
  pub pages : (b : ℕ) → view_of new b ≡ view_of old b

-- The same view stands below, and the same blocks are known.
pub record IsOver (old new : Working) : Type 0 where
  pub view : IsSameView old new
  pub absent : (b : ℕ) → pages_of old b ≡ None → pages_of new b ≡ None
  pub known : (b : ℕ) → pages_of new b ≡ None → pages_of old b ≡ None

-- what is held stays held, and what is free stays free
pub record KeepsHeld (old new : Pages) : Type 0 where
  pub held : (b : ℕ) → IsHeld old b → IsHeld new b
  pub free : (b : ℕ) → old b ≡ Some None → new b ≡ Some None

-- the kinds of the blocks of the zones stay; those of the metadata region follow from where they are
abbrev pub KeepsKinds : (old new : Working) → Type 0
KeepsKinds old new = (b : ℕ) → meta_of old.geometry ≤ b → kinds_of new b ≡ kinds_of old b

-- but one block was put with this kind, or none where it is free
pub record IsKindPut (old new : Working) (b : ℕ) (kind : Option Kind) : Type 0 where
  pub here : kinds_of new b ≡ kind
  pub others : (x : ℕ) → x ≢ b → kinds_of new x ≡ kinds_of old x

-- the same of the blocks of the zones alone
pub record IsZoneKindPut (old new : Working) (b : ℕ) (kind : Option Kind) : Type 0 where
  pub here : kinds_of new b ≡ kind
  pub others : (x : ℕ) → meta_of old.geometry ≤ x → x ≢ b → kinds_of new x ≡ kinds_of old x

-- A page was taken out, to be put again.
pub record IsLifted (old new : Working) (b : ℕ) : Type 0 where
  pub view : IsSameView old new
  pub pages : (x : ℕ) → x ≢ b → pages_of new x ≡ pages_of old x
  pub kinds : (x : ℕ) → x ≢ b → kinds_of new x ≡ kinds_of old x

-- ---- volumes

-- The pages carry the volume, perhaps in the middle of a request: it need not be sound.
pub record Carries (g : Geometry) (pages : Pages) (v : Volume) : Type 0 where
  pub uses : AreUses g v
  pub count : length v ≡ inodes_of g
  pub fits : Fits g pages v

-- a block of the zones was put as data exactly where it has a part of a file
abbrev pub KindsFit : Geometry → (ℕ → Option Kind) → Volume → Type 0
KindsFit g kinds v =
    (b : ℕ) (kind : Kind) → meta_of g ≤ b → kinds b ≡ Some kind → (kind ≡ Data) ↔ IsOfFile v b

-- What the pages carry became another volume, which is the same at each block that is not known.
pub record Becomes (g : Geometry) (v w : Volume) (old new : Working) : Type 0 where
  pub carries : Carries g (pages_of new) w
  pub same : (b : ℕ) → pages_of old b ≡ None → SameAt g v w b
  pub kinds : KindsFit g (kinds_of old) v → KindsFit g (kinds_of new) w
