-- What is known of blocks that are absent.
use Rattle.std.specs.Prelude.{◌≡◌, ◌⊎◌, ℕ, List, Some, None}
use Rattle.std.specs.List.{All, Contains}
use Rattle.mq_inodes.specs.Pages.{Pages}

-- that blocks are free
abbrev pub AreFree : Pages → List ℕ → Type 0
AreFree pages blocks = All (λ b. pages b ≡ Some None) blocks

-- It is noted of these blocks, and of no other.
pub record AreNoted (old new : Pages) (blocks : List ℕ) : Type 0 where
  pub free : AreFree new blocks
  pub each : (b : ℕ) → (new b ≡ old b) ⊎ (Contains blocks b × (new b ≡ Some None))
