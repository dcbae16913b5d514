-- The least block at which something is wrong.
use Rattle.std.specs.Prelude.{◌≤◌, ℕ, Option, Some, None, min}

-- it is wrong at this block, and at none before
pub record IsLeast (IsWrong : ℕ → Type 0) (b : ℕ) : Type 0 where
  pub wrong : IsWrong b
  pub least : (c : ℕ) → IsWrong c → b ≤ c

-- the answer of a search: the least block, or none where it is wrong at none
abbrev pub IsLeastOf : (ℕ → Type 0) → Option ℕ → Type 0
IsLeastOf IsWrong None = (c : ℕ) → IsWrong c → ⊥
IsLeastOf IsWrong (Some b) = IsLeast IsWrong b

-- the lesser of two blocks, where they are there
abbrev pub lesser : Option ℕ → Option ℕ → Option ℕ
lesser None b = b
lesser (Some a) None = Some a
lesser (Some a) (Some b) = Some (min a b)
