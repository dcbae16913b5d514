-- What a transaction writes and frees: the blocks at which two volumes differ.
use Rattle.std.specs.Prelude.{◌≡◌, ◌≢◌, ◌<◌, ◌↔◌, ℕ, true, false, List, Some, None}
use Rattle.std.specs.List.{AllPairs, Contains}
use Rattle.mq_blocks.specs.Journal.{is_among}
use Rattle.mq_blocks.specs.Machine.{Transaction, write_of}
use Rattle.mq_blocks.specs.declared.geometry.Geometry.{Geometry}
use Rattle.mq_inodes.specs.Changes.{IsOfFile, SameAt}
use Rattle.mq_inodes.specs.Fits.{Agrees}
use Rattle.mq_inodes.specs.Pages.{Pages, over}
use Rattle.mq_pages.specs.declared.page.Kind.TheVariants.{Data}
use Rattle.mq_pages.specs.declared.page.Write.{Write}
use Rattle.mq_tree.specs.Laid.{ShowsPage}
use Rattle.mq_tree.specs.Volume.{Volume, is_taken}

-- what is written is what the volume shows afterwards, and not before
pub record IsWritten (g : Geometry) (v w : Volume) (x : Write) : Type 0 where
  pub now : ShowsPage g w x.block x.content
  pub new : ShowsPage g v x.block x.content → ⊥
  pub kind : (x.kind ≡ Data) ↔ IsOfFile w x.block

-- a block that had content and has none afterwards
abbrev pub IsFreed : Volume → Volume → ℕ → Type 0
IsFreed v w b = (is_taken v b ≡ true) × (is_taken w b ≡ false)

-- Just what changes from one volume to the other is written and freed, by rising block.
pub record Moves (g : Geometry) (v w : Volume) (writes : List Write) (frees : List ℕ) : Type 0 where
  pub writes_rise : AllPairs (λ x y. x.block < y.block) writes
  pub written : (x : Write) → Contains writes x ↔ IsWritten g v w x
  pub frees_rise : AllPairs (λ b c. b < c) frees
  pub freed : (b : ℕ) → Contains frees b ↔ IsFreed v w b

-- Pages that were put over those of a view lead from the one volume to the other.
pub record LeadsTo (g : Geometry) (view changed : Pages) (v w : Volume) : Type 0 where
  pub before : Agrees g view v
  pub after : Agrees g (λ b. over (changed b) (view b)) w
  -- only pages that are known change
  pub known : (b : ℕ) → view b ≡ None → changed b ≡ None
  pub same : (b : ℕ) → changed b ≡ None → SameAt g v w b

-- The volumes show the same at each block that is neither written nor freed.
abbrev pub KeepsRest : Geometry → (v w : Volume) → List Write → List ℕ → Type 0
KeepsRest g v w writes frees =
    (b : ℕ) → ((x : Write) → Contains writes x → x.block ≢ b) → (Contains frees b → ⊥) → SameAt g v w b

-- A transaction of a map writes just these contents, in whatever order, and frees just these blocks.
pub record IsChangeOf (t : Transaction) (writes : List Write) (frees : List ℕ) : Type 0 where
  pub only : (b : ℕ) (page : List ℕ) → write_of t.writes b ≡ Some page
      → (x : Write) × Contains writes x × (x.block ≡ b) × (x.content ≡ page)
  pub all : (x : Write) → Contains writes x → write_of t.writes x.block ≡ Some x.content
  pub freed : (b : ℕ) → (is_among b t.freed ≡ true) ↔ Contains frees b
