-- Totals over lists in which places change.
use Rattle.std.proofs.Common.{◌≡◌, ◌≢◌, ℕ, zero, suc, ◌+◌, ◌*◌, ◌≤◌, add-mul, List, [], ◌∷◌, ◌++◌, set, sym, refl, ap, arith}
use mathlib.Core.Option.{some, some-ne-none, some-injective}
use lib.ListN.{get_elem?}
use Rattle.mq_blocks.specs.Totals.{total}

module _ {A : Type 0} where
  pub total_set : (f : A → ℕ) (l : List A) (i : ℕ) (a b : A) → get_elem? l i ≡ some a → total f (set l i b) + f a ≡ total f l + f b
  total_set f [] i a b e = absurd (some-ne-none a (sym e))
  total_set f (x ∷ xs) zero a b e = let p : f x ≡ f a = ap f (some-injective x a e) in omega arith
  total_set f (x ∷ xs) (suc i) a b e = let ih = total_set f xs i a b e in omega arith

  pub total_one : (f : A → ℕ) (l : List A) (i : ℕ) (a : A) → get_elem? l i ≡ some a → f a ≤ total f l
  total_one f [] i a e = absurd (some-ne-none a (sym e))
  total_one f (x ∷ xs) zero a e = let p : f x ≡ f a = ap f (some-injective x a e) in omega arith
  total_one f (x ∷ xs) (suc i) a e = let ih = total_one f xs i a e in omega arith

  pub total_two : (f : A → ℕ) (l : List A) (i j : ℕ) (a b : A) → get_elem? l i ≡ some a → get_elem? l j ≡ some b → j ≢ i → f a + f b ≤ total f l
  total_two f [] i j a b e h ne = absurd (some-ne-none a (sym e))
  total_two f (x ∷ xs) zero zero a b e h ne = absurd (ne refl)
  total_two f (x ∷ xs) zero (suc j) a b e h ne = let p : f x ≡ f a = ap f (some-injective x a e) in let o = total_one f xs j b h in omega arith
  total_two f (x ∷ xs) (suc i) zero a b e h ne = let p : f x ≡ f b = ap f (some-injective x b h) in let o = total_one f xs i a e in omega arith
  total_two f (x ∷ xs) (suc i) (suc j) a b e h ne = let ih = total_two f xs i j a b e h (λ q. ne (ap suc q)) in omega arith

  pub total_append : (f : A → ℕ) (l m : List A) → total f (l ++ m) ≡ total f l + total f m
  total_append f [] m = omega arith
  total_append f (x ∷ xs) m = let ih = total_append f xs m in omega arith

  pub total_last : (f : A → ℕ) (l m : List A) (x : A) → l ≡ m ++ x ∷ [] → total f l ≡ total f m + f x
  total_last f l m x is = let last = total_append f m (x ∷ []) in let same : total f l ≡ total f (m ++ x ∷ []) = ap (total f) is in omega arith

  -- f is at most g of each
  pub total_le : (f g : A → ℕ) (l : List A) → ((i : ℕ) (a : A) → get_elem? l i ≡ some a → f a ≤ g a) → total f l ≤ total g l
  total_le f g [] h = omega arith
  total_le f g (x ∷ xs) h = let ih = total_le f g xs (λ i a e. h (suc i) a e) in let here = h 0 x refl in omega arith

  pub total_zero : (f : A → ℕ) (l : List A) → ((i : ℕ) (a : A) → get_elem? l i ≡ some a → f a ≡ 0) → total f l ≡ 0
  total_zero f [] h = refl
  total_zero f (x ∷ xs) h = let ih = total_zero f xs (λ i a e. h (suc i) a e) in let here = h 0 x refl in omega arith

  pub total_only : (f : A → ℕ) (l : List A) (i : ℕ) (a : A) → get_elem? l i ≡ some a → ((j : ℕ) (b : A) → j ≢ i → get_elem? l j ≡ some b → f b ≡ 0) → total f l ≡ f a
  total_only f [] i a e h = absurd (some-ne-none a (sym e))
  total_only f (x ∷ xs) zero a e h = let p : f x ≡ f a = ap f (some-injective x a e) in let z = total_zero f xs (λ j b o. h (suc j) b (λ q. omega arith) o) in omega arith
  total_only f (x ∷ xs) (suc i) a e h = let ih = total_only f xs i a e (λ j b ne o. h (suc j) b (λ q. ne (omega arith)) o) in let here = h 0 x (λ q. omega arith) refl in omega arith

  -- two places change, and f of both is what it was
  pub total_pair : (f : A → ℕ) (l : List A) (i j : ℕ) (a b c d : A) → get_elem? l i ≡ some a → get_elem? (set l i b) j ≡ some c → f b + f d ≡ f a + f c → total f (set (set l i b) j d) ≡ total f l
  total_pair f l i j a b c d at there h = let x = total_set f l i a b at in let y = total_set f (set l i b) j c d there in omega arith

  pub total_sum : (f g h : A → ℕ) (l : List A) → ((a : A) → h a ≡ f a + g a) → total h l ≡ total f l + total g l
  total_sum f g h [] e = refl
  total_sum f g h (x ∷ xs) e = let ih = total_sum f g h xs e in let here = e x in omega arith

  pub total_same : (f : A → ℕ) (l : List A) (i : ℕ) (a b : A) → get_elem? l i ≡ some a → f b ≡ f a → total f (set l i b) ≡ total f l
  total_same f l i a b e h = let t = total_set f l i a b e in omega arith

  -- the same, where the gap at one place counts
  pub total_gap : (f g : A → ℕ) (l : List A) (i : ℕ) (a : A) → get_elem? l i ≡ some a → ((j : ℕ) (b : A) → get_elem? l j ≡ some b → f b ≤ g b) → total f l + g a ≤ total g l + f a
  total_gap f g [] i a e h = absurd (some-ne-none a (sym e))
  total_gap f g (x ∷ xs) zero a e h = let p : f x ≡ f a = ap f (some-injective x a e) in let q : g x ≡ g a = ap g (some-injective x a e) in let t = total_le f g xs (λ j b o. h (suc j) b o) in omega arith
  total_gap f g (x ∷ xs) (suc i) a e h = let ih = total_gap f g xs i a e (λ j b o. h (suc j) b o) in let here = h 0 x refl in omega arith

  pub total_scaled : (f : A → ℕ) (c : ℕ) (l : List A) → total (λ a. f a * c) l ≡ total f l * c
  total_scaled f c [] = omega arith
  total_scaled f c (x ∷ xs) = let ih = total_scaled f c xs in grind (arith, add-mul (f x) (total f xs) c, ih)
