-- A list of one port.
use Rattle.std.proofs.Common.{◌≡◌, List, [], ◌∷◌, All, length, map, get_or, Some, refl, ap, subst, arith}
use Rattle.std.specs.Prelude.{slice_get}
use Rattle.std.proofs.lemmas.Option.{same_Some}

pub has_one : {A : Type 0} (xs : List A) → length xs ≡ 1 → (x : A) × (slice_get xs 0 ≡ Some x)
has_one [] one = absurd (omega arith)
has_one (x ∷ xs) one = (x, refl)

pub only_one : {A : Type 0} (xs : List A) (x : A) → length xs ≡ 1 → slice_get xs 0 ≡ Some x → xs ≡ x ∷ []
only_one [] x one is = absurd (omega arith)
only_one (y ∷ []) x one is = ap (λ (z : _). z ∷ []) (same_Some y x is)
only_one (y ∷ z ∷ zs) x one is = absurd (omega (arith, one))

-- what a function makes of the first item
pub first_mapped : {A B : Type 0} (f : A → B) (xs : List A) (x : A) (d : B) → slice_get xs 0 ≡ Some x → get_or (map f xs) 0 d ≡ f x
first_mapped f [] x d is = cc
first_mapped f (y ∷ ys) x d is = ap f (same_Some y x is)

-- what holds of all holds of it
pub at_first : {A : Type 0} (P : A → Type 0) (xs : List A) (x : A) → slice_get xs 0 ≡ Some x → All P xs → P x
at_first P [] x is all = cc
at_first P (y ∷ ys) x is all = subst P (same_Some y x is) (all 0 y (omega arith))
