-- Totals of lists, and of numbers below a bound.
use Rattle.std.proofs.Common.{◌≡◌, ◌⊎◌, ℕ, zero, suc, ◌+◌, ◌<◌, ◌≤◌, ◌++◌, List, [], ◌∷◌, length, map, inl, inr, refl, arith}
use Rattle.std.specs.Prelude.{Some, slice_get, slice_index_or}
use Rattle.mq_blocks.specs.Totals.{total}
use Rattle.mq_run.specs.Lines.{joined}

module _ {A : Type 0} where
  pub total-append : (f : A → ℕ) (xs ys : List A) → total f (xs ++ ys) ≡ total f xs + total f ys
  total-append f [] ys = omega arith
  total-append f (x ∷ xs) ys = let rest = total-append f xs ys in omega arith

  pub total-each : (f h : A → ℕ) (xs : List A) → ((i : ℕ) (x : A) → slice_get xs i ≡ Some x → f x ≤ h x) → total f xs ≤ total h xs
  total-each f h [] each = omega arith
  total-each f h (x ∷ xs) each =
      let one = each 0 x refl in
      let rest = total-each f h xs (λ i y at. each (suc i) y at) in
      omega arith

module _ {A B : Type 0} where
  pub total-map : (f : B → ℕ) (h : A → B) (xs : List A) → total f (map h xs) ≡ total (λ x. f (h x)) xs
  total-map f h [] = refl
  total-map f h (x ∷ xs) = let rest = total-map f h xs in omega arith

  pub total-joined : (f : B → ℕ) (h : A → List B) (xs : List A) → total f (joined (map h xs)) ≡ total (λ x. total f (h x)) xs
  total-joined f h [] = refl
  total-joined f h (x ∷ xs) =
      let rest = total-joined f h xs in
      let both = total-append f (h x) (joined (map h xs)) in
      omega arith

-- ---- the numbers below a bound

abbrev pub under : ℕ → (ℕ → ℕ) → ℕ
under zero f = 0
under (suc n) f = f 0 + under n (λ k. f (suc k))

pub under-one : (n : ℕ) (f : ℕ → ℕ) (k : ℕ) → k < n → f k ≤ under n f
under-one zero f k low = absurd (omega arith)
under-one (suc n) f zero low = omega arith
under-one (suc n) f (suc k) low = let rest = under-one n (λ j. f (suc j)) k (omega arith) in omega arith

pub under-sum : (n : ℕ) (f h : ℕ → ℕ) → under n (λ k. f k + h k) ≡ under n f + under n h
under-sum zero f h = refl
under-sum (suc n) f h = let rest = under-sum n (λ k. f (suc k)) (λ k. h (suc k)) in omega arith

pub under-each : (n : ℕ) (f h : ℕ → ℕ) → ((k : ℕ) → k < n → f k ≤ h k) → under n f ≤ under n h
under-each zero f h each = omega arith
under-each (suc n) f h each =
    let one = each 0 (omega arith) in
    let rest = under-each n (λ k. f (suc k)) (λ k. h (suc k)) (λ k low. each (suc k) (omega arith)) in
    omega arith

pub under-list : {A : Type 0} (f : A → ℕ) (xs : List A) (d : A) → total f xs ≡ under (length xs) (λ k. f (slice_index_or xs k d))
under-list f [] d = refl
under-list f (x ∷ xs) d = let rest = under-list f xs d in omega arith

-- it holds of each, or something else of one
pub each-or-one : (n : ℕ) (Each One : ℕ → Type 0) → ((k : ℕ) → k < n → One k ⊎ Each k) → ((k : ℕ) × (k < n) × One k) ⊎ ((k : ℕ) → k < n → Each k)
each-or-one zero Each One h = inr (λ k low. absurd (omega arith))
each-or-one (suc n) Each One h = elim (h 0 (omega arith)) [
  | inl one ↦ inl (0, omega arith, one)
  | inr first ↦ elim (each-or-one n (λ k. Each (suc k)) (λ k. One (suc k)) (λ k low. h (suc k) (omega arith))) [
    | inl some ↦ (let low = some.1 in inl (suc some.0, omega arith, some.2))
    | inr rest ↦ inr (with-first first rest)
  ]
]
  where
    with-first : Each 0 → ((k : ℕ) → k < n → Each (suc k)) → (k : ℕ) → k < suc n → Each k
    with-first first rest zero low = first
    with-first first rest (suc k) low = rest k (omega arith)
