-- Lists: what is in them, pairs of their elements, and the same elements in another order.
use Rattle.std.proofs.Common.{◌≡◌, ◌≢◌, ◌⊎◌, ◌∙◌, ℕ, zero, suc, ◌<◌, List, [], ◌∷◌, ◌++◌, length, get_or, swap, inl, inr, refl, sym, ap, subst, arith}
use Rattle.std.specs.Prelude.{Some, slice_get}
use Rattle.std.specs.List.{AllPairs, Contains}
use Rattle.std.specs.List.Sorted.{IsPermutation}
use Rattle.std.proofs.lemmas.Bool.{cases_eq}
use Rattle.std.proofs.lemmas.List.Edits.{Swapped, swapped_from_swap, length-swap}
use Rattle.std.proofs.lemmas.List.Elements.{Contains-get_or}
use Rattle.std.proofs.lemmas.List.Kept.{AllPairs-cons}
use Rattle.std.proofs.lemmas.List.Sorted.{IsPermutation-keeps}
use Rattle.std.proofs.lemmas.Option.{same_Some, get_or_from_slice_get, slice_get_within}
use Rattle.mq_run.specs.Lines.{joined}
pub use Rattle.mq_state_laws.proofs.Members.{cons-cases, here, in-either, in-left, in-right, none-in, there}
use Rattle.mq_turns.specs.Lists.{Each, times}
use Rattle.mq_turns.proofs.Lists.{miss}

-- where a swap of a and b took the element at m from
abbrev From : ℕ → ℕ → ℕ → ℕ → Type 0
From a b m k = ((m ≡ a) × (k ≡ b)) ⊎ (((m ≡ b) × (k ≡ a)) ⊎ ((m ≢ a) × (m ≢ b) × (k ≡ m)))

module _ {X : Type 0} where
  -- ---- elements

  pub each-in : (P : X → Type 0) (xs : List X) (x : X) → Each P xs → Contains xs x → P x
  each-in P [] x h c = absurd (none-in x c)
  each-in P (y ∷ ys) x h c = elim (cons-cases x y ys c) [ inl e ↦ subst P e h.0 | inr c ↦ each-in P ys x h.1 c ]

  pub get-in : (xs : List X) (i : ℕ) (x : X) → slice_get xs i ≡ Some x → Contains xs x
  get-in xs i x e = (i, slice_get_within xs i x e, get_or_from_slice_get xs i x x e)

  pub in-get : (xs : List X) (x : X) → Contains xs x → (i : ℕ) × (slice_get xs i ≡ Some x)
  in-get [] x c = absurd (none-in x c)
  in-get (y ∷ ys) x c = elim (cons-cases x y ys c) [ inl e ↦ (0, ap (λ (z : X). Some z) e) | inr c ↦ (let r = in-get ys x c in (suc r.0, r.1)) ]

  pub get-append : (xs ys : List X) (i : ℕ) (x : X) → slice_get xs i ≡ Some x → slice_get (xs ++ ys) i ≡ Some x
  get-append [] ys i x e = absurd (cc)
  get-append (z ∷ zs) ys zero x e = e
  get-append (z ∷ zs) ys (suc i) x e = get-append zs ys i x e

  pub get-push : (xs : List X) (k : ℕ) (x : X) → length xs ≡ k → slice_get (xs ++ x ∷ []) k ≡ Some x
  get-push [] zero x e = refl
  get-push [] (suc k) x e = absurd (omega arith)
  get-push (z ∷ zs) zero x e = absurd (omega arith)
  get-push (z ∷ zs) (suc k) x e = get-push zs k x (omega arith)

  pub push-cases : (xs : List X) (i : ℕ) (x y : X) → slice_get (xs ++ x ∷ []) i ≡ Some y → (slice_get xs i ≡ Some y) ⊎ ((i ≡ length xs) × (x ≡ y))
  push-cases [] zero x y e = inr (refl, same_Some x y e)
  push-cases [] (suc i) x y e = absurd (cc)
  push-cases (z ∷ zs) zero x y e = inl e
  push-cases (z ∷ zs) (suc i) x y e = elim (push-cases zs i x y e) [ inl a ↦ inl a | inr b ↦ (let n = b.0 in inr (omega arith, b.1)) ]

  pub same-get : (xs : List X) (i : ℕ) (x y : X) → slice_get xs i ≡ Some x → slice_get xs i ≡ Some y → x ≡ y
  same-get xs i x y e f = same_Some x y (sym e ∙ f)

  -- ---- pairs

  pub pairs-head : (R : X → X → Type 0) (x : X) (xs : List X) (y : X) → AllPairs R (x ∷ xs) → Contains xs y → R x y
  pairs-head R x xs y h c = let l = c.1 in subst (R x) c.2 (h 0 (suc c.0) y (omega arith) (omega arith))

  pub pairs-tail : (R : X → X → Type 0) (x : X) (xs : List X) → AllPairs R (x ∷ xs) → AllPairs R xs
  pairs-tail R x xs h i j d lt within = h (suc i) (suc j) d (omega arith) (omega arith)

  pub pairs-cons : (R : X → X → Type 0) (x : X) (xs : List X) → ((y : X) → Contains xs y → R x y) → AllPairs R xs → AllPairs R (x ∷ xs)
  pairs-cons R x xs head tail = AllPairs-cons R x xs (λ k d lt. head (get_or xs k d) (Contains-get_or xs k d lt)) tail

  pub pairs-none : (R : X → X → Type 0) → AllPairs R []
  pairs-none R i j d lt within = absurd (omega arith)

  pub pairs-one : (R : X → X → Type 0) (x : X) → AllPairs R (x ∷ [])
  pairs-one R x = pairs-cons R x [] (λ y c. absurd (none-in y c)) (pairs-none R)

  pub pairs-append : (R : X → X → Type 0) (xs ys : List X) → AllPairs R xs → AllPairs R ys → ((x y : X) → Contains xs x → Contains ys y → R x y) → AllPairs R (xs ++ ys)
  pairs-append R [] ys a b both = b
  pairs-append R (x ∷ xs) ys a b both =
      pairs-cons R x (xs ++ ys)
      (λ y c. elim (in-either xs ys y c) [ inl l ↦ pairs-head R x xs y a l | inr r ↦ both x y (here x xs) r ])
      (pairs-append R xs ys (pairs-tail R x xs a) b (λ z y c d. both z y (there z x xs c) d))

  pub pairs-map : (R S : X → X → Type 0) (xs : List X) → ((x y : X) → Contains xs x → Contains xs y → R x y → S x y) → AllPairs R xs → AllPairs S xs
  pairs-map R S xs f h i j d lt within = f (get_or xs i d) (get_or xs j d) (Contains-get_or xs i d (omega arith)) (Contains-get_or xs j d within) (h i j d lt within)

  -- ---- another order

  origin : (f g : ℕ → X) (a b m : ℕ) → Swapped f g a b → (m ≡ a) ⊎ (m ≢ a) → (m ≡ b) ⊎ (m ≢ b) → (k : ℕ) × From a b m k × (g m ≡ f k)
  origin f g a b m s (inl e) y = (b, inl (e, refl), ap g e ∙ s.0)
  origin f g a b m s (inr n) (inl e) = (a, inr (inl (e, refl)), ap g e ∙ s.1)
  origin f g a b m s (inr n) (inr o) = (m, inr (inr (n, o, refl)), s.2 m n o)

  either-way : (R : X → X → Type 0) (xs : List X) → ((x y : X) → R x y → R y x) → AllPairs R xs → (i j : ℕ) (d : X) → i < length xs → j < length xs → i ≢ j → R (get_or xs i d) (get_or xs j d)
  either-way R xs turn h i j d p q other = elim (cases_eq i j) [
    | inl same ↦ absurd (other same)
    | inr ne ↦ elim (below i j ne) [ inl lt ↦ h i j d lt q | inr gt ↦ turn (get_or xs j d) (get_or xs i d) (h j i d gt p) ]
  ]
    where
      below : (i j : ℕ) → i ≢ j → (i < j) ⊎ (j < i)
      below zero zero ne = absurd (ne refl)
      below zero (suc j) ne = inl (omega arith)
      below (suc i) zero ne = inr (omega arith)
      below (suc i) (suc j) ne = elim (below i j (λ e. ne (ap suc e))) [ inl lt ↦ inl (omega arith) | inr gt ↦ inr (omega arith) ]

  swapped : (R : X → X → Type 0) → ((x y : X) → R x y → R y x) → (xs : List X) (a b : ℕ) → a < length xs → b < length xs → AllPairs R xs → AllPairs R (swap xs a b)
  swapped R turn xs a b p q h i j d less within =
      let len = length-swap xs a b in
      let s = swapped_from_swap xs (swap xs a b) a b d p q refl in
      let x = origin _ _ a b i s (cases_eq i a) (cases_eq i b) in
      let y = origin _ _ a b j s (cases_eq j a) (cases_eq j b) in
      let apart : x.0 ≢ y.0 = λ e. omega (arith, x.1, y.1, e) in
      subst (λ (z : X). R z (get_or (swap xs a b) j d)) (sym x.2)
      (subst (λ (z : X). R (get_or xs x.0 d) z) (sym y.2) (either-way R xs turn h x.0 y.0 d (omega (arith, x.1)) (omega (arith, y.1)) apart))

  -- pairs that may be turned are the same in each order
  pub pairs-permuted : (R : X → X → Type 0) → ((x y : X) → R x y → R y x) → (xs ys : List X) → IsPermutation xs ys → AllPairs R xs → AllPairs R ys
  pairs-permuted R turn xs ys moved h = IsPermutation-keeps xs (AllPairs R) h (swapped R turn) ys moved

  -- ---- one list after another

  pub joined-in : (xss : List (List X)) (x : X) → Contains (joined xss) x → (i : ℕ) × (xs : List X) × (slice_get xss i ≡ Some xs) × Contains xs x
  joined-in [] x c = absurd (none-in x c)
  joined-in (xs ∷ xss) x c = elim (in-either xs (joined xss) x c) [ inl a ↦ (0, xs, refl, a) | inr b ↦ (let r = joined-in xss x b in (suc r.0, r.1, r.2, r.3)) ]

  pub in-joined : (xss : List (List X)) (i : ℕ) (xs : List X) (x : X) → slice_get xss i ≡ Some xs → Contains xs x → Contains (joined xss) x
  in-joined [] i xs x e c = absurd (cc)
  in-joined (ys ∷ xss) zero xs x e c = in-left ys (joined xss) x (subst (λ (zs : List X). Contains zs x) (sym (same_Some ys xs e)) c)
  in-joined (ys ∷ xss) (suc i) xs x e c = in-right ys (joined xss) x (in-joined xss i xs x e c)

  -- pairs within each list, and across two of them
  pub pairs-joined : (R : X → X → Type 0) (xss : List (List X)) → ((i : ℕ) (xs : List X) → slice_get xss i ≡ Some xs → AllPairs R xs)
      → ((i j : ℕ) (xs ys : List X) (x y : X) → i < j → slice_get xss i ≡ Some xs → slice_get xss j ≡ Some ys → Contains xs x → Contains ys y → R x y)
      → AllPairs R (joined xss)
  pairs-joined R [] own across = pairs-none R
  pairs-joined R (xs ∷ xss) own across =
      pairs-append R xs (joined xss) (own 0 xs refl)
      (pairs-joined R xss (λ i ys e. own (suc i) ys e) (λ i j ys zs x y lt e f c d. across (suc i) (suc j) ys zs x y (omega arith) e f c d))
      (λ x y c d. let r = joined-in xss y d in across 0 (suc r.0) xs r.1 x y (omega arith) refl r.2 c r.3)

-- ---- numbers in lists

module _ {A : Type 0} where
  pub times-in : (n : ℕ) (xs : List (ℕ × A)) → 0 < times n xs → (a : A) × Contains xs (n, a)
  times-in n [] h = absurd (omega arith)
  times-in n (x ∷ xs) h = elim (cases_eq x.0 n) [
    | inl e ↦ (x.1, (0, omega arith, λ i. (e i, x.1)))
    | inr ne ↦ (
        let m = miss x.0 n ne in
        let r = times-in n xs (omega arith) in
        (r.0, there (n, r.0) x xs r.1))
  ]
