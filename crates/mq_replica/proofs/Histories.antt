-- The contents after some first updates of a history.
use Rattle.std.proofs.Common.{◌≡◌, ℕ, zero, suc, ◌+◌, ◌<◌, ◌≤◌, List, [], ◌∷◌, ◌++◌, length, refl, sym, ap, subst, arith}
use Rattle.std.specs.Prelude.{Contains, slice_index_or}
use Rattle.mq_replica.specs.Contents.{Contents, after_first, with_writes}
use Rattle.mq_replica.specs.Feeding.{AreNumbered}
use Rattle.mq_replica.specs.declared.update.Update.{Update}

-- later updates don't count for the first ones
pub first_before : (n : ℕ) (us vs : List Update) (c : Contents) → n ≤ length us → after_first n (us ++ vs) c ≡ after_first n us c
first_before zero us vs c l = refl
first_before (suc n) [] vs c l = absurd (omega (arith, l))
first_before (suc n) (u ∷ us) vs c l = first_before n us vs (with_writes u.writes c) (omega (arith, l))

-- the numbers of a longer history follow one another too
pub numbered_on : (base : ℕ) (us : List Update) (u : Update) → AreNumbered base us → u.number ≡ base + length us + 1 → AreNumbered base (us ++ u ∷ [])
numbered_on base [] u are is = (omega (arith, is), tt)
numbered_on base (v ∷ us) u are is = (are.0, numbered_on (base + 1) us u are.1 (omega (arith, is)))

-- each update has a number between
pub between : (base : ℕ) (us : List Update) (k : ℕ) (u : Update) → AreNumbered base us → k < length us → slice_index_or us k u ≡ u → u.number ≡ base + k + 1
between base [] k u are low is = absurd (omega (arith, low))
between base (v ∷ us) zero u are low is = let e = ap (λ (x : Update). x.number) is in omega (arith, e, are.0)
between base (v ∷ us) (suc k) u are low is = let e = between (base + 1) us k u are.1 (omega (arith, low)) is in omega (arith, e)

-- one update more
pub first_next : (n : ℕ) (us : List Update) (c : Contents) (u : Update) (x : ℕ) → n < length us → slice_index_or us n u ≡ u → after_first (suc n) us c x ≡ with_writes u.writes (after_first n us c) x
first_next zero [] c u x low is = absurd (omega (arith, low))
first_next zero (v ∷ us) c u x low is = ap (λ (w : Update). with_writes w.writes c x) is
first_next (suc n) [] c u x low is = absurd (omega (arith, low))
first_next (suc n) (v ∷ us) c u x low is = first_next n us (with_writes v.writes c) u x (omega (arith, low)) is

-- with the number right above those that were applied
pub first_after : (base n : ℕ) (us : List Update) (c : Contents) (u : Update) (x : ℕ) → AreNumbered base us → Contains us u → u.number ≡ base + n + 1 → after_first (n + 1) us c x ≡ with_writes u.writes (after_first n us c) x
first_after base n us c u x are in_it is =
    let k = in_it.0 in
    let at = between base us k u are in_it.1 in_it.2 in
    let same : k ≡ n = omega (arith, at, is) in
    let one : n + 1 ≡ suc n = omega arith in
    subst (λ (m : ℕ). after_first m us c x ≡ with_writes u.writes (after_first n us c) x) (sym one)
    (subst (λ (m : ℕ). after_first (suc m) us c x ≡ with_writes u.writes (after_first m us c) x) same (first_next k us c u x in_it.1 in_it.2))

-- none is above the last
pub number_high : (base : ℕ) (us : List Update) (u : Update) → AreNumbered base us → Contains us u → u.number ≤ base + length us
number_high base us u are in_it =
    let at = between base us in_it.0 u are in_it.1 in_it.2 in
    let low = in_it.1 in
    omega (arith, at, low)
