-- Pages that a group misses, as they are listed before any of them is there.
use Rattle.std.specs.Prelude.{◌≡◌, ◌<◌, ◌⊎◌, ℕ, List, ◌++◌, None}
use Rattle.std.specs.List.{Contains}
use Rattle.mq_blocks.specs.Geometry.{homes_of}
use Rattle.mq_blocks.specs.declared.geometry.Geometry.{Geometry}
use Rattle.mq_inodes.specs.Fits.{Agrees}
use Rattle.mq_inodes.specs.MissingPages.{OfEach}
use Rattle.mq_inodes.specs.Pages.{Pages, pages_of}
use Rattle.mq_inodes.specs.declared.lack.Missing.{Missing}
use Rattle.mq_inodes.specs.declared.lack.Missing.TheVariants.{Need, OutOfMemory}
use Rattle.mq_inodes.specs.declared.working.Working.{Working}
use Rattle.mq_tree.specs.Looks.{GroupLooks, Looks}
use Rattle.mq_tree.specs.Requests.{step}
use Rattle.mq_tree.specs.Volume.{Volume}
use Rattle.mq_tree.specs.declared.request.Request.{Request}

-- the missing pages come after what was listed before
abbrev pub IsListed : Missing → (before after : List ℕ) → Type 0
IsListed (Need blocks) before after = after ≡ before ++ blocks.items
IsListed OutOfMemory before after = ⊥

-- What was added to a list is absent and looked at.
pub record Adds (pages : Pages) (looks : ℕ → Type 0) (before after : List ℕ) : Type 0 where
  pub only : (b : ℕ) → Contains after b → Contains before b ⊎ ((pages b ≡ None) × looks b)

-- at which a request looks
abbrev pub AddsOf : Working → (queue : ℕ) → Request → (before after : List ℕ) → Type 0
AddsOf w q r before after = Adds (pages_of w) (λ b. OfEach w (λ v. Looks w.geometry q v r b)) before after

-- The step past a request: the pages may be a part of each volume to which it leads, and none is absent
-- that was known.
pub record GoesOn (q : ℕ) (r : Request) (old new : Working) : Type 0 where
  pub geometry : new.geometry ≡ old.geometry
  pub known : (b : ℕ) → pages_of new b ≡ None → pages_of old b ≡ None
  pub next : OfEach old (λ v. Agrees old.geometry (pages_of new) (step old.geometry q v r).next)

-- a home block that is absent, and at which the group looks on each volume of which the pages may be a part
pub record IsLacked (g : Geometry) (q : ℕ) (pages : Pages) (requests : List Request) (b : ℕ) : Type 0 where
  pub absent : pages b ≡ None
  pub home : b < homes_of g
  pub looks : (v : Volume) → Agrees g pages v → GroupLooks g q v requests b
