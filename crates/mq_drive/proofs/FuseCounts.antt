-- Counts of tickets.
use Rattle.std.proofs.Common.{◌≡◌, ◌≢◌, ⊎_elim, ℕ, zero, suc, ◌+◌, ◌<◌, ◌≤◌, min, Bool, true, false, List, [], ◌∷◌, ◌++◌, inl, inr, refl, ap, arith, ltb, leb, eqb, lt-ltb, le-ltb, eq-eqb, ne_eqb}
use Rattle.std.proofs.lemmas.Bool.{cases_lt, cases_eq, le-leb, lt-leb}
use Rattle.mq_blocks.specs.Totals.{total}
use Rattle.mq_drive.specs.Fuse.{tick, times, below, above}
use Rattle.mq_drive.specs.declared.tickets.Tickets.{Tickets}
use Rattle.mq_blocks.proofs.Totals.{total_zero, total_sum}

pub tick_lt : (t n : ℕ) → t < n → tick (ltb t n) ≡ 1
tick_lt t n h = ap tick (lt-ltb t n h)

pub tick_ge : (t n : ℕ) → n ≤ t → tick (ltb t n) ≡ 0
tick_ge t n h = ap tick (le-ltb t n h)

tick_le : (n t : ℕ) → n ≤ t → tick (leb n t) ≡ 1
tick_le n t h = ap tick (le-leb n t h)

tick_gt : (n t : ℕ) → t < n → tick (leb n t) ≡ 0
tick_gt n t h = ap tick (lt-leb n t h)

pub tick_eq : (d t : ℕ) → d ≡ t → tick (eqb d t) ≡ 1
tick_eq d t h = ap tick (eq-eqb d t h)

pub tick_ne : (d t : ℕ) → d ≢ t → tick (eqb d t) ≡ 0
tick_ne d t h = ap tick (ne_eqb d t h)

pub times-append : (t : ℕ) (xs ys : List ℕ) → times t (xs ++ ys) ≡ times t xs + times t ys
times-append t [] ys = omega arith
times-append t (x ∷ xs) ys = let ih = times-append t xs ys in omega arith

pub below-append : (m : ℕ) (xs ys : List ℕ) → below m (xs ++ ys) ≡ below m xs + below m ys
below-append m [] ys = omega arith
below-append m (x ∷ xs) ys = let ih = below-append m xs ys in omega arith

pub above-append : (m : ℕ) (xs ys : List ℕ) → above m (xs ++ ys) ≡ above m xs + above m ys
above-append m [] ys = omega arith
above-append m (x ∷ xs) ys = let ih = above-append m xs ys in omega arith

-- a ticket below the limit is not above it
pub below_first : (m t : ℕ) (ts : List ℕ) → t < m → (below m (t ∷ ts) ≡ suc (below m ts)) × (above m (t ∷ ts) ≡ above m ts)
below_first m t ts h = let a = tick_lt t m h in let b = tick_gt m t h in (omega arith, omega arith)

pub above_first : (m t : ℕ) (ts : List ℕ) → m ≤ t → (below m (t ∷ ts) ≡ below m ts) × (above m (t ∷ ts) ≡ suc (above m ts))
above_first m t ts h = let a = tick_ge t m h in let b = tick_le m t h in (omega arith, omega arith)

none_below : (ts : List ℕ) → below 0 ts ≡ 0
none_below [] = refl
none_below (t ∷ ts) = let ih = none_below ts in let e = tick_ge t 0 (omega arith) in omega arith

tick_suc : (d m : ℕ) → tick (ltb d (suc m)) ≡ tick (ltb d m) + tick (eqb d m)
tick_suc d m = elim (cases_lt d m) [
  | inl low ↦ let a = tick_lt d m low in let b = tick_lt d (suc m) (omega arith) in let c = tick_ne d m (λ e. omega arith) in omega arith
  | inr high ↦ ⊎_elim
      (λ (e : d ≡ m). let a = tick_ge d m high in let b = tick_lt d (suc m) (omega arith) in let c = tick_eq d m e in omega arith)
      (λ (n : d ≢ m). let a = tick_ge d m high in let more : m < d = omega arith in let b = tick_ge d (suc m) (omega arith) in let c = tick_ne d m n in omega arith)
      (cases_eq d m)
]

below_suc : (m : ℕ) (ts : List ℕ) → below (suc m) ts ≡ below m ts + times m ts
below_suc m [] = refl
below_suc m (t ∷ ts) = let ih = below_suc m ts in let e = tick_suc t m in omega arith

-- tickets of which none stands twice
pub below_few : (ts : List ℕ) → ((t : ℕ) → times t ts ≤ 1) → (m : ℕ) → below m ts ≤ m
below_few ts once zero = let e = none_below ts in omega arith
below_few ts once (suc m) = let ih = below_few ts once m in let e = below_suc m ts in let o = once m in omega arith

-- where the tickets of all are the numbers below n, each once, the number of those below m is the lesser of
-- m and n
pub total_below : (n : ℕ) (vs : List Tickets) → ((t : ℕ) → total (λ v. times t v.drawn) vs ≡ tick (ltb t n)) → (m : ℕ) → total (λ v. below m v.drawn) vs ≡ min m n
total_below n vs once zero = let e = total_zero (λ v. below 0 v.drawn) vs (λ i v at. none_below v.drawn) in omega arith
total_below n vs once (suc m) =
    let ih = total_below n vs once m in
    let sum = total_sum (λ v. below m v.drawn) (λ v. times m v.drawn) (λ v. below (suc m) v.drawn) vs (λ v. below_suc m v.drawn) in
    let here = once m in
    elim (cases_lt m n) [
      | inl low ↦ let a = tick_lt m n low in omega arith
      | inr high ↦ let a = tick_ge m n high in omega arith
    ]

tick_whole : (d m l : ℕ) → tick (ltb d m) ≤ tick (ltb d l) + tick (leb l d)
tick_whole d m l =
    let one : tick (ltb d m) ≤ 1 = at_most (ltb d m) in
    elim (cases_lt d l) [
      | inl low ↦ let a = tick_lt d l low in omega arith
      | inr high ↦ let a = tick_le l d high in omega arith
    ]
  where
    at_most : (b : Bool) → tick b ≤ 1
    at_most true = omega arith
    at_most false = omega arith

pub below_whole : (m l : ℕ) (ts : List ℕ) → below m ts ≤ below l ts + above l ts
below_whole m l [] = omega arith
below_whole m l (t ∷ ts) = let ih = below_whole m l ts in let e = tick_whole t m l in omega arith

pub above_some : (l : ℕ) (ts : List ℕ) → 0 < above l ts → (t : ℕ) × (l ≤ t) × (0 < times t ts)
above_some l [] some = absurd (omega (arith, some))
above_some l (t ∷ ts) some = elim (cases_lt t l) [
  | inl low ↦
      let rest = above_some l ts (let a = (below_first l t ts low).1 in omega (arith, some)) in
      (rest.0, rest.1, let more = rest.2 in omega (arith, more))
  | inr high ↦ (t, high, let a = tick_eq t t refl in omega (arith, a))
]
