-- What one session drew is the whole history, each entry with its number.
use Rattle.std.proofs.Common.{◌≡◌, ℕ, suc, ◌+◌, ◌<◌, ◌≤◌, List, [], ◌∷◌, ◌++◌, length, inl, inr, refl, sym, ap, ◌∙◌, arith, length-append}
use Rattle.mq_turns.specs.Lists.{Each, Sorted, times}
use Rattle.mq_turns.specs.Meaning.{HasNumberAt}
use Rattle.mq_turns.proofs.Lists.{each_both, miss, times_none}
use Rattle.mq_turns.proofs.Meaning.{at_bounds}

pub each-left : {A : Type 0} (Q : A → Type 0) (xs ys : List A) → Each Q (xs ++ ys) → Each Q xs
each-left Q [] ys h = tt
each-left Q (x ∷ xs) ys h = (h.0, each-left Q xs ys h.1)

pub each-right : {A : Type 0} (Q : A → Type 0) (xs ys : List A) → Each Q (xs ++ ys) → Each Q ys
each-right Q [] ys h = h
each-right Q (x ∷ xs) ys h = each-right Q xs ys h.1

module _ {E : Type 0} where
  -- the entries of a history, the newest first, each with its number
  abbrev pub noted : ℕ → List E → List (ℕ × E)
  noted base [] = []
  noted base (e ∷ es) = (suc (base + length es), e) ∷ noted base es

  abbrev entries-in : List (ℕ × E) → List E
  entries-in [] = []
  entries-in (d ∷ ds) = d.1 ∷ entries-in ds

  entries-noted : (base : ℕ) (es : List E) → entries-in (noted base es) ≡ es
  entries-noted base [] = refl
  entries-noted base (e ∷ es) = ap (λ (xs : List E). e ∷ xs) (entries-noted base es)

  -- they are the entries of one history
  pub one-history : (base : ℕ) (es fs : List E) → noted base es ≡ noted base fs → es ≡ fs
  one-history base es fs same = sym (entries-noted base es) ∙ (ap entries-in same ∙ entries-noted base fs)

  -- the last ones are a beginning of the history
  abbrev pub Splits : ℕ → List E → List (ℕ × E) → Type 0
  Splits base log ys = (newer : List E) × (old : List E) × (log ≡ newer ++ old) × (ys ≡ noted base old)

  splits-on : (base : ℕ) (e : E) (log : List E) (ys : List (ℕ × E)) → Splits base log ys → Splits base (e ∷ log) ys
  splits-on base e log ys (newer, old, is, rest) = (e ∷ newer, old, ap (λ (es : List E). e ∷ es) is, rest)

  first-is : (x y : ℕ × E) (xs ys : List (ℕ × E)) → x ∷ xs ≡ y ∷ ys → x ≡ y
  first-is x y xs ys is = cc

  rest-is : (x y : ℕ × E) (xs ys : List (ℕ × E)) → x ∷ xs ≡ y ∷ ys → xs ≡ ys
  rest-is x y xs ys is = cc

  pub split : (base : ℕ) (log : List E) (xs ys : List (ℕ × E)) → noted base log ≡ xs ++ ys → Splits base log ys
  split base log [] ys is = ([], log, refl, sym is)
  split base [] (x ∷ xs) ys is = absurd (cc)
  split base (e ∷ log) (x ∷ xs) ys is = splits-on base e log ys (split base log xs ys (rest-is (suc (base + length log), e) x (noted base log) (xs ++ ys) is))

  older-number : (base : ℕ) (e : E) (es : List E) (d : ℕ × E) → HasNumberAt base (e ∷ es) d.0 d.1 → d.0 < suc (base + length es) → HasNumberAt base es d.0 d.1
  older-number base e es d (inl a) low = let is = a.0 in absurd (omega arith)
  older-number base e es d (inr a) low = a

  -- Where all of them are in the history, with falling numbers, and each number is there, they are all of it.
  pub all-noted : (base : ℕ) (log : List E) (drew : List (ℕ × E)) → Each (λ d. HasNumberAt base log d.0 d.1) drew → Sorted (λ d before. before.0 < d.0) drew
      → ((n : ℕ) → base < n → n ≤ base + length log → times n drew ≡ 1) → drew ≡ noted base log
  all-noted base [] [] each falls once = refl
  all-noted base [] (d ∷ drew) each falls once = absurd each.0
  all-noted base (e ∷ log) [] each falls once =
      let one = once (suc (base + length log)) (omega arith) (omega arith) in
      absurd (omega (arith, one))
  all-noted base (e ∷ log) (d ∷ drew) each falls once = elim each.0 [
    | inl top ↦
        let number : d.0 ≡ suc (base + length log) = top.0 in
        let first : d ≡ (suc (base + length log), e) = (λ i. (number i, sym top.1 i)) in
        let below = each_both (λ (x : ℕ × E). x.0 < d.0) (λ (x : ℕ × E). HasNumberAt base (e ∷ log) x.0 x.1) (λ (x : ℕ × E). HasNumberAt base log x.0 x.1)
        (λ x low at. older-number base e log x at (omega (arith, low, number))) drew falls.0 each.1 in
        let rest = all-noted base log drew below falls.1
        (λ n low high. let one = once n low (omega arith) in let other = miss d.0 n (λ same. omega (arith, same, number, high)) in omega (arith, one, other)) in
        ap (λ (x : ℕ × E). x ∷ drew) first ∙ ap (λ (xs : List (ℕ × E)). (suc (base + length log), e) ∷ xs) rest
    | inr lower ↦
        let top = (at_bounds base log d.0 d.1 lower).1 in
        let one = once (suc (base + length log)) (omega arith) (omega arith) in
        let none = times_none (suc (base + length log)) (base + length log) (d ∷ drew)
        (top, each_both (λ (x : ℕ × E). x.0 < d.0) (λ (x : ℕ × E). x.0 < d.0) (λ (x : ℕ × E). x.0 ≤ base + length log) (λ x low again. omega (arith, low, top)) drew falls.0 falls.0) (omega arith) in
        absurd (omega (arith, one, none))
  ]

  below-noted : (base : ℕ) (es : List E) (n : ℕ) → base + length es < n → Each (λ d. d.0 < n) (noted base es)
  below-noted base [] n high = tt
  below-noted base (e ∷ es) n high = (omega (arith, high), below-noted base es n (omega (arith, high)))

  -- A history that is not longer than another, and has each entry of it with its number, is that one.
  pub one-log : (base : ℕ) (log es : List E) → length log ≤ length es → Each (λ d. HasNumberAt base log d.0 d.1) (noted base es) → log ≡ es
  one-log base [] [] short each = refl
  one-log base (x ∷ log) [] short each = absurd (omega (arith, short))
  one-log base [] (e ∷ es) short each = absurd each.0
  one-log base (x ∷ log) (e ∷ es) short each = elim each.0 [
    | inl top ↦
        let number : suc (base + length es) ≡ suc (base + length log) = top.0 in
        let rest = one-log base log es (omega (arith, short))
        (each_both (λ (d : ℕ × E). d.0 < suc (base + length es)) (λ (d : ℕ × E). HasNumberAt base (x ∷ log) d.0 d.1) (λ (d : ℕ × E). HasNumberAt base log d.0 d.1)
        (λ d low at. older-number base x log d at (omega (arith, low, number))) (noted base es) (below-noted base es (suc (base + length es)) (omega arith)) each.1) in
        ap (λ (y : E). y ∷ log) top.1 ∙ ap (λ (ys : List E). e ∷ ys) rest
    | inr lower ↦
        let top : suc (base + length es) ≤ base + length log = (at_bounds base log (suc (base + length es)) e lower).1 in
        absurd (omega (arith, short, top))
  ]

  -- ---- what was drawn later

  length-noted : (base : ℕ) (es : List E) → length (noted base es) ≡ length es
  length-noted base [] = refl
  length-noted base (e ∷ es) = ap suc (length-noted base es)

  longer : (base : ℕ) (log es : List E) (y : ℕ × E) (xs : List (ℕ × E)) → noted base log ≡ y ∷ xs ++ noted base es → length es < length log
  longer base log es y xs is =
      let a : length (noted base log) ≡ suc (length (xs ++ noted base es)) = ap (λ (ds : List (ℕ × E)). length ds) is in
      let b = length-noted base log in
      let c = length-noted base es in
      let d = length-append xs (noted base es) in
      omega (arith, a, b, c, d)

  -- a number below all that were drawn later is not above the last one before
  pub below-first : (base : ℕ) (log es : List E) (xs : List (ℕ × E)) (n : ℕ) → noted base log ≡ xs ++ noted base es → Each (λ d. n < d.0) xs → (log ≡ es → n ≤ base + length es) → n ≤ base + length es
  below-first base log es [] n is each none = none (one-history base log es is)
  below-first base [] es (x ∷ xs) n is each none = absurd (cc)
  below-first base (e ∷ log) es (x ∷ []) n is each none =
      let first = first-is (suc (base + length log), e) x (noted base log) (noted base es) is in
      let rest = rest-is (suc (base + length log), e) x (noted base log) (noted base es) is in
      let number : suc (base + length log) ≡ x.0 = ap (λ (d : ℕ × E). d.0) first in
      let long : length log ≡ length es = ap (λ (ys : List E). length ys) (one-history base log es rest) in
      let low : n < x.0 = each.0 in
      omega (arith, number, long, low)
  below-first base (e ∷ log) es (x ∷ y ∷ xs) n is each none =
      let rest = rest-is (suc (base + length log), e) x (noted base log) (y ∷ xs ++ noted base es) is in
      below-first base log es (y ∷ xs) n rest each.1 (λ same.
      let more = longer base log es y xs rest in
      let long : length log ≡ length es = ap (λ (ys : List E). length ys) same in
      absurd (omega (arith, more, long)))

  -- the entry that was drawn last
  pub drawn-last : (base at : ℕ) (e : E) (es fs : List E) → (at, e) ∷ noted base es ≡ noted base fs → (at ≡ suc (base + length es)) × (fs ≡ e ∷ es)
  drawn-last base at e es [] is = absurd (cc)
  drawn-last base at e es (x ∷ fs) is =
      let first = first-is (at, e) (suc (base + length fs), x) (noted base es) (noted base fs) is in
      let same = one-history base es fs (rest-is (at, e) (suc (base + length fs), x) (noted base es) (noted base fs) is) in
      let number : at ≡ suc (base + length fs) = ap (λ (d : ℕ × E). d.0) first in
      let entry : e ≡ x = ap (λ (d : ℕ × E). d.1) first in
      let long : length es ≡ length fs = ap (λ (ys : List E). length ys) same in
      (omega (arith, number, long), ap (λ (y : E). y ∷ fs) (sym entry) ∙ ap (λ (ys : List E). e ∷ ys) (sym same))
