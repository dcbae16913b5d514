-- Searches for the least block, one number after another.
use Rattle.std.proofs.Common.{◌≡◌, ℕ, ◌+◌, ◌<◌, ◌⊎◌, sym, subst, arith, inl, inr}
use Rattle.std.specs.Prelude.{Option, None}
use Rattle.std.proofs.lemmas.Bool.{cases_eq}
use Rattle.mq_tree.specs.Least.{IsLeastOf, lesser}
use Rattle.mq_tree.proofs.Least.{least-either, least-same}

-- it is wrong at this block for a number below this one
pub record WrongBelow (P : (j c : ℕ) → Type 0) (i c : ℕ) : Type 0 where
  pub j : ℕ
  pub low : j < i
  pub wrong : P j c

pub below-start : (P : (j c : ℕ) → Type 0) → IsLeastOf (WrongBelow P 0) None
below-start P = λ c h. let low = h.low in absurd (omega arith)

-- one number more was looked at
pub below-step : (P : (j c : ℕ) → Type 0) (i : ℕ) (a b r : Option ℕ) → IsLeastOf (WrongBelow P i) a → IsLeastOf (λ c. P i c) b → r ≡ lesser a b → IsLeastOf (WrongBelow P (i + 1)) r
below-step P i a b r old new is =
    subst (λ o. IsLeastOf (WrongBelow P (i + 1)) o) (sym is)
    (least-same (λ c. WrongBelow P i c ⊎ P i c) (WrongBelow P (i + 1)) (lesser a b) to from
    (least-either (WrongBelow P i) (λ c. P i c) a b old new))
  where
    to : (c : ℕ) → WrongBelow P i c ⊎ P i c → WrongBelow P (i + 1) c
    to c (inl h) = record { j = h.j; low = (let low = h.low in omega arith); wrong = h.wrong }
    to c (inr h) = record { j = i; low = omega arith; wrong = h }

    from : (c : ℕ) → WrongBelow P (i + 1) c → WrongBelow P i c ⊎ P i c
    from c h = elim (cases_eq h.j i) [
      | inl last ↦ inr (subst (λ j. P j c) last h.wrong)
      | inr other ↦ inl (record { j = h.j; low = (let low = h.low in omega arith); wrong = h.wrong })
    ]

-- nothing is wrong for the number
pub below-skip : (P : (j c : ℕ) → Type 0) (i : ℕ) (a : Option ℕ) → IsLeastOf (WrongBelow P i) a → ((c : ℕ) → P i c → ⊥) → IsLeastOf (WrongBelow P (i + 1)) a
below-skip P i a old right = least-same (WrongBelow P i) (WrongBelow P (i + 1)) a to from old
  where
    to : (c : ℕ) → WrongBelow P i c → WrongBelow P (i + 1) c
    to c h = record { j = h.j; low = (let low = h.low in omega arith); wrong = h.wrong }

    from : (c : ℕ) → WrongBelow P (i + 1) c → WrongBelow P i c
    from c h = elim (cases_eq h.j i) [
      | inl last ↦ absurd (right c (subst (λ j. P j c) last h.wrong))
      | inr other ↦ record { j = h.j; low = (let low = h.low in omega arith); wrong = h.wrong }
    ]
