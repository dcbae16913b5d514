-- Searches for the least block, put together.
use Rattle.std.proofs.Common.{ℕ, inl, inr, ◌⊎◌, sym, arith, subst}
use Rattle.std.specs.Prelude.{Option, Some, None}
use Rattle.std.proofs.Math.Nat.{min-eq_left, min-eq_right}
use Rattle.std.proofs.lemmas.Bool.{cases_lt}
use Rattle.mq_tree.specs.Least.{IsLeast, IsLeastOf, lesser}

-- what is found for one of two, or for both, is found for either
pub least-either : (F G : ℕ → Type 0) (a b : Option ℕ) → IsLeastOf F a → IsLeastOf G b → IsLeastOf (λ c. F c ⊎ G c) (lesser a b)
least-either F G None None f g = λ c h. elim h [ inl x ↦ f c x | inr y ↦ g c y ]
least-either F G None (Some b) f g = record { wrong = inr g.wrong; least = λ c h. elim h [ inl x ↦ absurd (f c x) | inr y ↦ g.least c y ] }
least-either F G (Some a) None f g = record { wrong = inl f.wrong; least = λ c h. elim h [ inl x ↦ f.least c x | inr y ↦ absurd (g c y) ] }
least-either F G (Some a) (Some b) f g = elim (cases_lt b a) [
  | inl low ↦ subst (IsLeast (λ c. F c ⊎ G c)) (sym (min-eq_right (omega arith)))
      (record { wrong = inr g.wrong; least = λ c h. elim h [ inl x ↦ (let l = f.least c x in omega arith) | inr y ↦ g.least c y ] })
  | inr high ↦ subst (IsLeast (λ c. F c ⊎ G c)) (sym (min-eq_left high))
      (record { wrong = inl f.wrong; least = λ c h. elim h [ inl x ↦ f.least c x | inr y ↦ (let l = g.least c y in omega arith) ] })
]

-- the same is looked for
pub least-same : (F G : ℕ → Type 0) (a : Option ℕ) → ((c : ℕ) → F c → G c) → ((c : ℕ) → G c → F c) → IsLeastOf F a → IsLeastOf G a
least-same F G None to from f = λ c y. f c (from c y)
least-same F G (Some a) to from f = record { wrong = to a f.wrong; least = λ c y. f.least c (from c y) }
