-- Rising numbers with one more among them.
use Rattle.std.proofs.Common.{◌≡◌, ℕ, ◌+◌, ◌<◌, ◌≤◌, true, List, [], ◌∷◌, sym, refl, subst, inl, inr, arith}
use Rattle.std.specs.Prelude.{◌⊎◌}
use Rattle.std.proofs.lemmas.Bool.{cases_lt, lt-ltb, le-ltb, eq-eqb, ne_eqb, false≢true}
use Rattle.mq_blocks.specs.Descriptor.{AreRising}
use Rattle.mq_blocks.specs.Journal.{is_among}
use Rattle.mq_blocks.proofs.JournalAmong.{among-cons, among-here, among-behind}
use Rattle.mq_loose_order.specs.Rising.{with_number}

-- the three ways of a number before the first of others
pub with-below : (n m : ℕ) (ms : List ℕ) → n < m → with_number n (m ∷ ms) ≡ n ∷ m ∷ ms
with-below n m ms l = rw (lt-ltb _ _ l) refl

pub with-same : (n m : ℕ) (ms : List ℕ) → n ≡ m → with_number n (m ∷ ms) ≡ m ∷ ms
with-same n m ms e = rw (le-ltb n m (omega (arith, e)), eq-eqb n m e) refl

pub with-above : (n m : ℕ) (ms : List ℕ) → m < n → with_number n (m ∷ ms) ≡ m ∷ with_number n ms
with-above n m ms l = rw (le-ltb n m (omega (arith, l)), ne_eqb n m (λ e. absurd (omega (arith, e, l)))) refl

pub among_with : (k n : ℕ) (ms : List ℕ) → is_among k (with_number n ms) ≡ true → (k ≡ n) ⊎ (is_among k ms ≡ true)
among_with k n [] a = among-cons n k [] a
among_with k n (m ∷ ms) a = elim (cases_lt n m) [
  | inl low ↦ among-cons n k (m ∷ ms) (rw (with-below n m ms low) at a)
  | inr high ↦ elim (cases_lt m n) [
    | inr least ↦ inr (rw (with-same n m ms (omega (arith, high, least))) at a)
    | inl above ↦ elim (among-cons m k (with_number n ms) (rw (with-above n m ms above) at a)) [
      | inl here ↦ inr (subst (λ z. is_among z (m ∷ ms) ≡ true) (sym here) (among-here m ms))
      | inr rest ↦ elim (among_with k n ms rest) [
        | inl is ↦ inl is
        | inr deeper ↦ inr (among-behind m k ms deeper)
      ]
    ]
  ]
]

pub with_own : (n : ℕ) (ms : List ℕ) → is_among n (with_number n ms) ≡ true
with_own n [] = among-here n []
with_own n (m ∷ ms) = elim (cases_lt n m) [
  | inl low ↦ rw (with-below n m ms low) (among-here n (m ∷ ms))
  | inr high ↦ elim (cases_lt m n) [
    | inr least ↦ (let e : n ≡ m = omega (arith, high, least) in rw (with-same n m ms e) (subst (λ z. is_among z (m ∷ ms) ≡ true) (sym e) (among-here m ms)))
    | inl above ↦ rw (with-above n m ms above) (among-behind m n (with_number n ms) (with_own n ms))
  ]
]

pub with_old : (k n : ℕ) (ms : List ℕ) → is_among k ms ≡ true → is_among k (with_number n ms) ≡ true
with_old k n [] a = absurd (false≢true a)
with_old k n (m ∷ ms) a = elim (cases_lt n m) [
  | inl low ↦ rw (with-below n m ms low) (among-behind n k (m ∷ ms) a)
  | inr high ↦ elim (cases_lt m n) [
    | inr least ↦ rw (with-same n m ms (omega (arith, high, least))) a
    | inl above ↦ rw (with-above n m ms above) (elim (among-cons m k ms a) [
      | inl here ↦ subst (λ z. is_among z (m ∷ with_number n ms) ≡ true) (sym here) (among-here m (with_number n ms))
      | inr rest ↦ among-behind m k (with_number n ms) (with_old k n ms rest)
    ])
  ]
]

pub rising_with : (low high n : ℕ) (ms : List ℕ) → AreRising low high ms → low ≤ n → n < high → AreRising low high (with_number n ms)
rising_with low high n [] r l h = (l, h, tt)
rising_with low high n (m ∷ ms) r l h = elim (cases_lt n m) [
  | inl below ↦ rw (with-below n m ms below) (l, h, (omega (arith, below), r.1, r.2))
  | inr high_is ↦ elim (cases_lt m n) [
    | inr least ↦ rw (with-same n m ms (omega (arith, high_is, least))) r
    | inl above ↦ rw (with-above n m ms above) (r.0, r.1, rising_with (m + 1) high n ms r.2 (omega (arith, above)) h)
  ]
]
