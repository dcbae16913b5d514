-- What is in a list, by its parts.
use Rattle.std.proofs.Common.{◌≡◌, ◌⊎◌, ℕ, zero, suc, ◌<◌, List, [], ◌∷◌, ◌++◌, inl, inr, refl, arith}
use Rattle.std.specs.List.{Contains}

module _ {X : Type 0} where
  pub here : (x : X) (xs : List X) → Contains (x ∷ xs) x
  here x xs = (0, omega arith, refl)

  pub there : (x y : X) (ys : List X) → Contains ys x → Contains (y ∷ ys) x
  there x y ys c = let l = c.1 in (suc c.0, omega arith, c.2)

  pub cons-cases : (x y : X) (ys : List X) → Contains (y ∷ ys) x → (y ≡ x) ⊎ Contains ys x
  cons-cases x y ys (zero, l, e) = inl e
  cons-cases x y ys (suc k, l, e) = inr (k, omega arith, e)

  pub none-in : (x : X) → Contains [] x → ⊥
  none-in x c = let l = c.1 in absurd (omega arith)

  pub in-left : (xs ys : List X) (x : X) → Contains xs x → Contains (xs ++ ys) x
  in-left [] ys x c = absurd (none-in x c)
  in-left (z ∷ zs) ys x c = elim (cons-cases x z zs c) [ inl e ↦ (0, omega arith, e) | inr c ↦ there x z (zs ++ ys) (in-left zs ys x c) ]

  pub in-right : (xs ys : List X) (x : X) → Contains ys x → Contains (xs ++ ys) x
  in-right [] ys x c = c
  in-right (z ∷ zs) ys x c = there x z (zs ++ ys) (in-right zs ys x c)

  pub in-either : (xs ys : List X) (x : X) → Contains (xs ++ ys) x → Contains xs x ⊎ Contains ys x
  in-either [] ys x c = inr c
  in-either (z ∷ zs) ys x c = elim (cons-cases x z (zs ++ ys) c) [
    | inl e ↦ inl (0, omega arith, e)
    | inr c ↦ elim (in-either zs ys x c) [ inl a ↦ inl (there x z zs a) | inr b ↦ inr b ]
  ]
