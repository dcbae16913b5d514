-- On what a transaction depends.
use Rattle.std.proofs.Common.{◌≡◌, ℕ, ◌+◌, ◌<◌, ◌≤◌, true, List, [], ◌∷◌, length, sym, refl, inl, inr, arith, length-append}
use Rattle.std.proofs.lemmas.Bool.{cases_lt, lt-leb, le-leb, false≢true}
use Rattle.mq_blocks.specs.Descriptor.{AreRising}
use Rattle.mq_blocks.specs.Journal.{is_among}
use Rattle.mq_blocks.proofs.JournalAmong.{among-cons, among-here, among-behind}
use Rattle.std.proofs.lemmas.List.{length-map}
use Rattle.mq_ledger.specs.History.{blocks_of, last, AreNumbered}
use Rattle.mq_ledger.specs.declared.tx.Tx.{Tx}
use Rattle.mq_ledger.proofs.History.{last_le}
use Rattle.mq_loose_order.specs.Rising.{with_number}
use Rattle.mq_loose_order.specs.Dependence.{depends_on, last_of_each, touched}
use Rattle.mq_loose_order.proofs.Rising.{among_with, with-above, with-below, with_own, with_old, with-same, rising_with}

pub each-above : (base x : ℕ) (xs : List ℕ) (ts : List Tx) → base < last base ts x → last_of_each base (x ∷ xs) ts ≡ with_number (last base ts x) (last_of_each base xs ts)
each-above base x xs ts l = rw (lt-leb _ _ l) refl

pub each-low : (base x : ℕ) (xs : List ℕ) (ts : List Tx) → last base ts x ≤ base → last_of_each base (x ∷ xs) ts ≡ last_of_each base xs ts
each-low base x xs ts l = rw (le-leb _ _ l) refl

-- a block whose last change it is
pub record IsLastOf (base : ℕ) (xs : List ℕ) (ts : List Tx) (n : ℕ) : Type 0 where
  pub x : ℕ
  pub among : is_among x xs ≡ true
  pub is : last base ts x ≡ n
  pub above : base < n

pub last_from_each : (base : ℕ) (xs : List ℕ) (ts : List Tx) (n : ℕ) → is_among n (last_of_each base xs ts) ≡ true → IsLastOf base xs ts n
last_from_each base [] ts n a = absurd (false≢true a)
last_from_each base (x ∷ xs) ts n a = elim (cases_lt base (last base ts x)) [
  | inl above ↦ elim (among_with n (last base ts x) (last_of_each base xs ts) (rw (each-above base x xs ts above) at a)) [
    | inl is ↦ record { x = x; among = among-here x xs; is = sym is; above = omega (arith, is, above) }
    | inr rest ↦ (let r = last_from_each base xs ts n rest in record { x = r.x; among = among-behind x r.x xs r.among; is = r.is; above = r.above })
  ]
  | inr low ↦ (let r = last_from_each base xs ts n (rw (each-low base x xs ts low) at a) in record { x = r.x; among = among-behind x r.x xs r.among; is = r.is; above = r.above })
]

pub last_in_each : (base : ℕ) (xs : List ℕ) (ts : List Tx) (x : ℕ) → is_among x xs ≡ true → base < last base ts x → is_among (last base ts x) (last_of_each base xs ts) ≡ true
last_in_each base [] ts x a l = absurd (false≢true a)
last_in_each base (y ∷ xs) ts x a l = elim (among-cons y x xs a) [
  | inl here ↦
      let l' : base < last base ts y = rw here at l in
      rw (here, each-above base y xs ts l') (with_own (last base ts y) (last_of_each base xs ts))
  | inr rest ↦ (let k = last_in_each base xs ts x rest l in elim (cases_lt base (last base ts y)) [
    | inl above ↦ rw (each-above base y xs ts above) (with_old (last base ts x) (last base ts y) (last_of_each base xs ts) k)
    | inr low ↦ rw (each-low base y xs ts low) k
  ])
]

rising_each : (base : ℕ) (xs : List ℕ) (ts : List Tx) → AreNumbered base ts → AreRising (base + 1) (base + length ts + 1) (last_of_each base xs ts)
rising_each base [] ts k = tt
rising_each base (x ∷ xs) ts k = elim (cases_lt base (last base ts x)) [
  | inl above ↦ rw (each-above base x xs ts above) (rising_with (base + 1) (base + length ts + 1) (last base ts x) (last_of_each base xs ts) (rising_each base xs ts k) (omega (arith, above)) (omega (arith, last_le base ts x k)))
  | inr low ↦ rw (each-low base x xs ts low) (rising_each base xs ts k)
]

pub deps_rise : (base : ℕ) (t : Tx) (ts : List Tx) → AreNumbered base ts → AreRising (base + 1) (base + length ts + 1) (depends_on base t ts)
deps_rise base t ts k = rising_each base (touched t) ts k

-- a transaction depends on earlier ones above the base
pub deps_low : (base : ℕ) (t : Tx) (ts : List Tx) (n : ℕ) → AreNumbered base ts → is_among n (depends_on base t ts) ≡ true → (base < n) × (n ≤ base + length ts)
deps_low base t ts n k a =
    let r = last_from_each base (touched t) ts n a in
    (r.above, omega (arith, r.is, last_le base ts r.x k))

-- no more numbers than blocks
length-with : (n : ℕ) (ms : List ℕ) → length (with_number n ms) ≤ length ms + 1
length-with n [] = omega arith
length-with n (m ∷ ms) = elim (cases_lt n m) [
  | inl low ↦ rw (with-below n m ms low) (omega arith)
  | inr high ↦ elim (cases_lt m n) [
    | inr least ↦ rw (with-same n m ms (omega (arith, high, least))) (omega arith)
    | inl above ↦ (let r = length-with n ms in rw (with-above n m ms above) (omega (arith, r)))
  ]
]

length-each : (base : ℕ) (xs : List ℕ) (ts : List Tx) → length (last_of_each base xs ts) ≤ length xs
length-each base [] ts = omega arith
length-each base (x ∷ xs) ts = (let r = length-each base xs ts in elim (cases_lt base (last base ts x)) [
  | inl above ↦ (let w = length-with (last base ts x) (last_of_each base xs ts) in rw (each-above base x xs ts above) (omega (arith, r, w)))
  | inr low ↦ rw (each-low base x xs ts low) (omega (arith, r))
])

pub deps_few : (base : ℕ) (t : Tx) (ts : List Tx) → length (depends_on base t ts) ≤ length t.logged + length t.freed
deps_few base t ts =
    let r = length-each base (touched t) ts in
    let long : length (blocks_of t.logged) ≡ length t.logged = length-map t.logged (λ (v : ℕ × List ℕ). v.0) in
    let all : length (touched t) ≡ length (blocks_of t.logged) + length t.freed = length-append (blocks_of t.logged) t.freed in
    omega (arith, r, long, all)
