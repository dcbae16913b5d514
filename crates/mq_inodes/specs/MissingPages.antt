-- What is stated for all volumes of which pages may be a part, and what is missing.
use Rattle.std.specs.Prelude.{◌≡◌, ◌≤◌, ℕ, List, length, None}
use Rattle.std.specs.List.{All}
use Rattle.mq_inodes.specs.Fits.{Agrees, IsPossible}
use Rattle.mq_inodes.specs.Pages.{Pages, pages_of}
use Rattle.mq_inodes.specs.declared.lack.Missing.{Missing}
use Rattle.mq_inodes.specs.declared.lack.Missing.TheVariants.{Need, OutOfMemory}
use Rattle.mq_inodes.specs.declared.working.Working.{Working}
use Rattle.mq_tree.specs.Volume.{Volume}

-- These blocks are missing: at least one, each absent and looked at.
pub record IsNeed (pages : Pages) (looks : ℕ → Type 0) (blocks : List ℕ) : Type 0 where
  pub some : 1 ≤ length blocks
  pub absent : All (λ b. pages b ≡ None) blocks
  pub looked : All looks blocks

-- A call that runs out of memory says nothing of the pages.
abbrev pub MissingPages : Pages → (looks : ℕ → Type 0) → Missing → Type 0
MissingPages pages looks (Need blocks) = IsNeed pages looks blocks.items
MissingPages pages looks OutOfMemory = Unit {0}

-- ---- of working pages

-- they are of some volume
abbrev pub HasVolume : Working → Type 0
HasVolume w = IsPossible w.geometry (pages_of w)

-- it holds of each volume of which they may be a part
abbrev pub OfEach : Working → (Volume → Type 0) → Type 0
OfEach w holds = (v : Volume) → Agrees w.geometry (pages_of w) v → holds v

-- the missing blocks are looked at on each of these volumes
abbrev pub MissingOf : Working → (looks : Volume → ℕ → Type 0) → Missing → Type 0
MissingOf w looks lack = MissingPages (pages_of w) (λ b. OfEach w (λ v. looks v b)) lack
