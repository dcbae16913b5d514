-- The least block that a loop over numbers finds.
use Rattle.std.proofs.Common.{◌≡◌, ℕ, ◌+◌, ◌<◌, ◌⊎◌, inl, inr, arith, subst}
use Rattle.std.specs.Prelude.{Option, None}
use Rattle.std.proofs.lemmas.Bool.{cases_lt}
use Rattle.mq_tree.specs.Least.{IsLeastOf, lesser}
use Rattle.mq_tree.proofs.Least.{least-either, least-same}

-- it is wrong for a number below this one
abbrev pub IsWrongBelow : (ℕ → ℕ → Type 0) → ℕ → ℕ → Type 0
IsWrongBelow W n c = (k : ℕ) × (k < n) × W k c

pub least-none : (W : ℕ → ℕ → Type 0) → IsLeastOf (IsWrongBelow W 0) None
least-none W c (k, low, h) = absurd (omega arith)

-- the search went one number further
pub least-more : (W : ℕ → ℕ → Type 0) (n : ℕ) (a b : Option ℕ) → IsLeastOf (IsWrongBelow W n) a → IsLeastOf (W n) b → IsLeastOf (IsWrongBelow W (n + 1)) (lesser a b)
least-more W n a b f g =
    least-same (λ c. IsWrongBelow W n c ⊎ W n c) (IsWrongBelow W (n + 1)) (lesser a b) to from (least-either (IsWrongBelow W n) (W n) a b f g)
  where
    to : (c : ℕ) → IsWrongBelow W n c ⊎ W n c → IsWrongBelow W (n + 1) c
    to c (inl (k, low, h)) = (k, omega arith, h)
    to c (inr h) = (n, omega arith, h)

    from : (c : ℕ) → IsWrongBelow W (n + 1) c → IsWrongBelow W n c ⊎ W n c
    from c (k, low, h) = elim (cases_lt k n) [
      | inl l ↦ inl (k, l, h)
      | inr past ↦ let e : k ≡ n = omega arith in inr (subst (λ j. W j c) e h)
    ]
