-- Two writes to a list at different places, in either order.
use Rattle.std.proofs.Common.{◌≡◌, ◌≢◌, ℕ, zero, suc, List, [], ◌∷◌, set, refl, ap}

pub set-swap : {A : Type 0} (xs : List A) (a b : ℕ) (v w : A) → a ≢ b → set (set xs a v) b w ≡ set (set xs b w) a v
set-swap [] a b v w apart = refl
set-swap (x ∷ xs) zero zero v w apart = absurd (apart refl)
set-swap (x ∷ xs) zero (suc b) v w apart = refl
set-swap (x ∷ xs) (suc a) zero v w apart = refl
set-swap (x ∷ xs) (suc a) (suc b) v w apart = ap (λ (l : List _). x ∷ l) (set-swap xs a b v w (λ same. apart (ap suc same)))
