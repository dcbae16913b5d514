-- Rising lists, entry by entry.
use Rattle.std.proofs.Common.{◌≡◌, ◌≢◌, ℕ, zero, suc, ◌+◌, ◌-◌, ◌<◌, ◌≤◌, ◌⊎◌, inl, inr, List, [], ◌∷◌, ◌++◌, length, take, get_or, refl, sym, ap, subst, ◌∙◌, arith}
use Rattle.std.proofs.lemmas.Bool.{cases_lt, cases_eq}
use Rattle.std.proofs.lemmas.List.{take_more, take_all, get_or_append_left, get_or-append-add}
use Rattle.mq_blocks.specs.Descriptor.{AreRising, AreApart, IsNoneOf}
use Rattle.mq_blocks.proofs.DescriptorRising.{rising-order}
use Rattle.mq_area.specs.Reading.{StopsAt, GoodRevoked, RefusesList}

-- the least number that may follow a rising list that began at `low`
abbrev pub next_above : ℕ → List ℕ → ℕ
next_above low [] = low
next_above low (x ∷ xs) = next_above (x + 1) xs

pub next_above-push : (low : ℕ) (xs : List ℕ) (x : ℕ) → next_above low (xs ++ x ∷ []) ≡ x + 1
next_above-push low [] x = refl
next_above-push low (y ∷ xs) x = next_above-push (y + 1) xs x

pub rising-push : (low high : ℕ) (xs : List ℕ) (x : ℕ) → AreRising low high xs → next_above low xs ≤ x → x < high → AreRising low high (xs ++ x ∷ [])
rising-push low high [] x r n h = (n, h, tt)
rising-push low high (y ∷ xs) x r n h = (r.0, r.1, rising-push (y + 1) high xs x r.2 n h)

pub rising-pushed : (low high : ℕ) (xs : List ℕ) (x : ℕ) → AreRising low high (xs ++ x ∷ []) → (next_above low xs ≤ x) × (x < high)
rising-pushed low high [] x r = (r.0, r.1)
rising-pushed low high (y ∷ xs) x r = rising-pushed (y + 1) high xs x r.2

pub apart-push : (xs ys : List ℕ) (x : ℕ) → AreApart xs ys → IsNoneOf x ys → AreApart (xs ++ x ∷ []) ys
apart-push [] ys x a n = (n, tt)
apart-push (z ∷ xs) ys x a n = (a.0, apart-push xs ys x a.1 n)

pub apart-pushed : (xs ys : List ℕ) (x : ℕ) → AreApart (xs ++ x ∷ []) ys → IsNoneOf x ys
apart-pushed [] ys x a = a.0
apart-pushed (z ∷ xs) ys x a = apart-pushed xs ys x a.1

pub none_of-from : (x : ℕ) (ys : List ℕ) → ((k : ℕ) → k < length ys → get_or ys k 0 ≢ x) → IsNoneOf x ys
none_of-from x [] h = tt
none_of-from x (y ∷ ys) h = (λ e. h 0 (omega arith) (sym e), none_of-from x ys (λ k l. h (suc k) (omega arith)))

pub none_of-at : (x : ℕ) (ys : List ℕ) (k : ℕ) → IsNoneOf x ys → k < length ys → get_or ys k 0 ≢ x
none_of-at x [] k n l = absurd (omega arith)
none_of-at x (y ∷ ys) zero n l = λ e. n.0 (sym e)
none_of-at x (y ∷ ys) (suc k) n l = none_of-at x ys k n.1 (omega arith)

-- one more entry of a list
pub rising-step : (high : ℕ) (xs : List ℕ) (i x : ℕ) → i < length xs → x ≡ get_or xs i 0 → AreRising 0 high (take i xs) → next_above 0 (take i xs) ≤ x → x < high → AreRising 0 high (take (i + 1) xs)
rising-step high xs i x l e r n h =
    let P : List ℕ → Type 0 = λ ys. AreRising 0 high ys in
    subst P (ap (λ (y : ℕ). take i xs ++ y ∷ []) e ∙ sym (take_more xs i 0 l)) (rising-push 0 high (take i xs) x r n h)

pub next_above-step : (xs : List ℕ) (i x : ℕ) → i < length xs → x ≡ get_or xs i 0 → next_above 0 (take (i + 1) xs) ≡ x + 1
next_above-step xs i x l e = ap (next_above 0) (take_more xs i 0 l) ∙ next_above-push 0 (take i xs) (get_or xs i 0) ∙ ap (λ (y : ℕ). y + 1) (sym e)

pub rising-stop : (high : ℕ) (xs : List ℕ) (i x : ℕ) → i < length xs → x ≡ get_or xs i 0 → AreRising 0 high (take (i + 1) xs) → (next_above 0 (take i xs) ≤ x) × (x < high)
rising-stop high xs i x l e r =
    let P : List ℕ → Type 0 = λ ys. AreRising 0 high ys in
    rising-pushed 0 high (take i xs) x (subst P (take_more xs i 0 l ∙ ap (λ (y : ℕ). take i xs ++ y ∷ []) (sym e)) r)

pub apart-step : (xs ys : List ℕ) (i x : ℕ) → i < length xs → x ≡ get_or xs i 0 → AreApart (take i xs) ys → IsNoneOf x ys → AreApart (take (i + 1) xs) ys
apart-step xs ys i x l e a n =
    let P : List ℕ → Type 0 = λ zs. AreApart zs ys in
    subst P (ap (λ (y : ℕ). take i xs ++ y ∷ []) e ∙ sym (take_more xs i 0 l)) (apart-push (take i xs) ys x a n)

pub apart-stop : (xs ys : List ℕ) (i x : ℕ) → i < length xs → x ≡ get_or xs i 0 → AreApart (take (i + 1) xs) ys → IsNoneOf x ys
apart-stop xs ys i x l e a =
    let P : List ℕ → Type 0 = λ zs. AreApart zs ys in
    apart-pushed (take i xs) ys x (subst P (take_more xs i 0 l ∙ ap (λ (y : ℕ). take i xs ++ y ∷ []) (sym e)) a)

-- a number that the entries before a place of a rising list are below, and the entry there is above, is
-- none of them
pub rising-none : (high : ℕ) (ys : List ℕ) (p x : ℕ) → AreRising 0 high ys → ((k : ℕ) → k < p → get_or ys k 0 < x) → (p < length ys → x < get_or ys p 0) → IsNoneOf x ys
rising-none high ys p x r before there = none_of-from x ys (λ k l e. elim (cases_lt k p) [
  | inl low ↦ let b = before k low in absurd (omega arith)
  | inr up ↦ elim (cases_eq k p) [
    | inl same ↦ let t : x < get_or ys p 0 = there (omega arith) in let z : get_or ys k 0 ≡ get_or ys p 0 = ap (λ (j : ℕ). get_or ys j 0) same in absurd (omega arith)
    | inr other ↦ let t : x < get_or ys p 0 = there (omega arith) in let z : get_or ys p 0 < get_or ys k 0 = rising-order 0 high ys p k r (omega arith) l in absurd (omega arith)
  ]
])

-- a stop in the first list, and one in the second
pub refuses-logged : (homes : ℕ) (logged revoked : List ℕ) (k found : ℕ) → StopsAt (AreRising 0 homes) logged k → found ≡ get_or logged k 0 → RefusesList homes logged revoked k found
refuses-logged homes logged revoked k found s e =
    let none : k - length logged ≡ 0 = let l = s.0 in omega arith in
    let P : ℕ → Type 0 = λ n. GoodRevoked homes logged (take n revoked) in
    record {
      inside = let l = s.0 in omega arith;
      found_is = e ∙ sym (get_or_append_left logged revoked 0 k s.0);
      before = (s.1, subst P (sym none) (tt, tt));
      wrong = λ w. s.2 w.0;
    }

pub refuses-revoked : (homes : ℕ) (logged revoked : List ℕ) (k found : ℕ) → AreRising 0 homes logged → StopsAt (GoodRevoked homes logged) revoked k → found ≡ get_or revoked k 0 → RefusesList homes logged revoked (length logged + k) found
refuses-revoked homes logged revoked k found r s e =
    let here : length logged + k - length logged ≡ k = omega arith in
    let next : length logged + k + 1 - length logged ≡ k + 1 = omega arith in
    let P : ℕ → Type 0 = λ n. GoodRevoked homes logged (take n revoked) in
    let Q : List ℕ → Type 0 = λ xs. AreRising 0 homes xs in
    record {
      inside = let l = s.0 in omega arith;
      found_is = e ∙ sym (get_or-append-add logged revoked k 0);
      before = (subst Q (sym (take_all (length logged + k) logged (omega arith))) r, subst P (sym here) s.1);
      wrong = λ w. s.2 (subst P next w.1);
    }

-- an entry that is out of order, or too large
pub unordered-stop : (homes : ℕ) (xs : List ℕ) (i x low : ℕ) → i < length xs → x ≡ get_or xs i 0 → low ≡ next_above 0 (take i xs) → AreRising 0 homes (take i xs) → (x < low) ⊎ (homes ≤ x) → StopsAt (AreRising 0 homes) xs i
unordered-stop homes xs i x low l e n r w = (l, r, λ s. let t = rising-stop homes xs i x l e s in elim w [ inl a ↦ omega arith | inr b ↦ omega arith ])

-- the same of a revoked block, and one that is logged
pub unfit-stop : (homes : ℕ) (logged xs : List ℕ) (i x low : ℕ) → i < length xs → x ≡ get_or xs i 0 → low ≡ next_above 0 (take i xs) → AreRising 0 homes (take i xs) → AreApart (take i xs) logged → (x < low) ⊎ (homes ≤ x) → StopsAt (GoodRevoked homes logged) xs i
unfit-stop homes logged xs i x low l e n r a w = (l, (r, a), λ s. (unordered-stop homes xs i x low l e n r w).2 s.0)

pub logged-stop : (homes : ℕ) (logged xs : List ℕ) (i x p : ℕ) → i < length xs → x ≡ get_or xs i 0 → AreRising 0 homes (take i xs) → AreApart (take i xs) logged → (p < length logged) × (get_or logged p 0 ≡ x) → StopsAt (GoodRevoked homes logged) xs i
logged-stop homes logged xs i x p l e r a at = (l, (r, a), λ s. none_of-at x logged p (apart-stop xs logged i x l e s.1) at.0 at.1)

-- a revoked block that the entries before p are below, and that is not the one at p
pub unlogged-step : (homes : ℕ) (logged xs : List ℕ) (i x low q p : ℕ) → i < length xs → x ≡ get_or xs i 0 → AreRising 0 homes logged → AreApart (take i xs) logged → low ≤ x
    → ((k : ℕ) → k < q → get_or logged k 0 < low) → ((k : ℕ) → q ≤ k → k < p → get_or logged k 0 < x) → (p < length logged → x ≤ get_or logged p 0) → ((p < length logged) × (get_or logged p 0 ≡ x) → ⊥)
    → AreApart (take (i + 1) xs) logged
unlogged-step homes logged xs i x low q p l e r a h before passed stop apart =
    apart-step xs logged i x l e a (rising-none homes logged p x r (λ k s. below-p k s) (λ s. above s))
  where
    below-p : (k : ℕ) → k < p → get_or logged k 0 < x
    below-p k s = elim (cases_lt k q) [ inl t ↦ let b = before k t in omega arith | inr t ↦ passed k t s ]

    above : p < length logged → x < get_or logged p 0
    above s = elim (cases_eq (get_or logged p 0) x) [ inl t ↦ absurd (apart (s, t)) | inr t ↦ let b = stop s in omega arith ]

pub below-next : (logged : List ℕ) (x low q p : ℕ) → low ≤ x → ((k : ℕ) → k < q → get_or logged k 0 < low) → ((k : ℕ) → q ≤ k → k < p → get_or logged k 0 < x) → (k : ℕ) → k < p → get_or logged k 0 < x + 1
below-next logged x low q p h before passed k s = elim (cases_lt k q) [ inl t ↦ let b = before k t in omega arith | inr t ↦ let b = passed k t s in omega arith ]
