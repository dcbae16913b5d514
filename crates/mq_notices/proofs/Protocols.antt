-- The rule of a queue, by indexes.
use Rattle.std.proofs.Common.{◌≡◌, ◌⊎◌, ℕ, suc, ◌+◌, ◌<◌, ◌≤◌, List, [], ◌∷◌, ◌++◌, length, ap, sym, subst, ◌∙◌, arith, ⊎_elim, inl, inr, length-append}
use Rattle.std.specs.Prelude.{Option}
use Rattle.std.proofs.lemmas.Bool.{cases_eq, cases_lt}
use Rattle.std.proofs.lemmas.List.{length-map}
use Rattle.mq_notices.specs.declared.notice.Notice.{Notice}
use Rattle.mq_notices.specs.Notices.{Merged, notice, notices_from}
use Rattle.mq_notices.specs.Notices.Merged.{none, left, right}
use Rattle.mq_notices.specs.Protocol.{AreAbove, AreFrom, AreRising, IsIn, RulesAreProtocols, indexes}
use Rattle.mq_notices.proofs.Lists.{notices-length}

-- ---- consecutive notices, cut in two

-- the first ones and those behind them
from-first : (n : ℕ) (xs ys : List Notice) (ps : List (Option ℕ)) → xs ++ ys ≡ notices_from n ps → AreFrom n (indexes xs)
from-first n [] ys ps e = tt
from-first n (x ∷ xs) ys [] e = absurd (cc)
from-first n (x ∷ xs) ys (p ∷ ps) e =
    let head : x ≡ notice n p = cc in
    let rest : xs ++ ys ≡ notices_from (suc n) ps = cc in
    (ap (λ (y : Notice). y.index) head, from-first (suc n) xs ys ps rest)

from-rest : (n : ℕ) (xs ys : List Notice) (ps : List (Option ℕ)) → xs ++ ys ≡ notices_from n ps → AreFrom (n + length xs) (indexes ys)
from-rest n [] [] ps e = tt
from-rest n [] (y ∷ ys) [] e = absurd (cc)
from-rest n [] (y ∷ ys) (p ∷ ps) e =
    let head : y ≡ notice n p = cc in
    let rest : ys ≡ notices_from (suc n) ps = cc in
    let at : n + 0 ≡ n = omega arith in
    subst (λ (k : ℕ). (y.index ≡ k) × AreFrom (suc k) (indexes ys)) (sym at) (ap (λ (z : Notice). z.index) head, from-rest-all (suc n) ys ps rest) where
      from-rest-all : (n : ℕ) (ys : List Notice) (ps : List (Option ℕ)) → ys ≡ notices_from n ps → AreFrom n (indexes ys)
      from-rest-all n [] ps e = tt
      from-rest-all n (y ∷ ys) [] e = absurd (cc)
      from-rest-all n (y ∷ ys) (p ∷ ps) e =
          let head : y ≡ notice n p = cc in
          let rest : ys ≡ notices_from (suc n) ps = cc in
          (ap (λ (z : Notice). z.index) head, from-rest-all (suc n) ys ps rest)
from-rest n (x ∷ xs) ys [] e = absurd (cc)
from-rest n (x ∷ xs) ys (p ∷ ps) e =
    let rest : xs ++ ys ≡ notices_from (suc n) ps = cc in
    let at : suc n + length xs ≡ n + suc (length xs) = omega arith in
    subst (λ (k : ℕ). AreFrom k (indexes ys)) at (from-rest (suc n) xs ys ps rest)

-- ---- indexes that two have taken

module _ where
  above-weaker : (m n : ℕ) (xs : List ℕ) → m ≤ n → AreAbove n xs → AreAbove m xs
  above-weaker m n [] le a = tt
  above-weaker m n (x ∷ xs) le a = let b = a.0 in (omega arith, above-weaker m n xs le a.1)

  from-above : (m n : ℕ) (xs : List ℕ) → m ≤ n → AreFrom n xs → AreAbove m xs
  from-above m n [] le f = tt
  from-above m n (x ∷ xs) le f = let e = f.0 in (omega arith, from-above m (suc n) xs (omega arith) f.1)

  in-above : (m n : ℕ) (xs : List ℕ) → AreAbove m xs → IsIn n xs → m ≤ n
  in-above m n [] a i = absurd i
  in-above m n (x ∷ xs) a i = ⊎_elim (λ (e : n ≡ x). let b = a.0 in omega arith) (λ k. in-above m n xs a.1 k) i

  merged-above : (m : ℕ) {a b c : List Notice} → Merged a b c → AreAbove m (indexes c) → AreAbove m (indexes a) × AreAbove m (indexes b)
  merged-above m none above = (tt, tt)
  merged-above m (left h) above = let r = merged-above m h above.1 in ((above.0, r.0), r.1)
  merged-above m (right h) above = let r = merged-above m h above.1 in (r.0, (above.0, r.1))

  rises : (n : ℕ) {a b c : List Notice} → Merged a b c → AreFrom n (indexes c) → AreRising (indexes a) × AreRising (indexes b)
  rises n none from = (tt, tt)
  rises n {c = c} (left {x = x} {c = d} h) from =
      let r = rises (suc n) h from.1 in
      let e = from.0 in
      let above = merged-above (suc x.index) h (from-above (suc x.index) (suc n) (indexes d) (omega arith) from.1) in
      ((above.0, r.0), r.1)
  rises n (right {x = x} {c = d} h) from =
      let r = rises (suc n) h from.1 in
      let e = from.0 in
      let above = merged-above (suc x.index) h (from-above (suc x.index) (suc n) (indexes d) (omega arith) from.1) in
      (r.0, (above.1, r.1))

  apart : (n k : ℕ) {a b c : List Notice} → Merged a b c → AreFrom n (indexes c) → IsIn k (indexes a) → IsIn k (indexes b) → ⊥
  apart n k none from i j = i
  apart n k (left {x = x} {c = d} h) from i j =
      let e = from.0 in
      let above = merged-above (suc n) h (from-above (suc n) (suc n) (indexes d) (omega arith) from.1) in
      ⊎_elim (λ (same : k ≡ x.index). let low = in-above (suc n) k _ above.1 j in absurd (omega arith)) (λ l. apart (suc n) k h from.1 l j) i
  apart n k (right {x = x} {c = d} h) from i j =
      let e = from.0 in
      let above = merged-above (suc n) h (from-above (suc n) (suc n) (indexes d) (omega arith) from.1) in
      ⊎_elim (λ (same : k ≡ x.index). let low = in-above (suc n) k _ above.0 i in absurd (omega arith)) (λ l. apart (suc n) k h from.1 i l) j

  -- in one of the two, just where it is in all
  in-one : (k : ℕ) {a b c : List Notice} → Merged a b c → IsIn k (indexes c) → IsIn k (indexes a) ⊎ IsIn k (indexes b)
  in-one k none i = absurd i
  in-one k (left h) i = ⊎_elim (λ e. inl (inl e)) (λ l. ⊎_elim (λ p. inl (inr p)) (λ q. inr q) (in-one k h l)) i
  in-one k (right h) i = ⊎_elim (λ e. inr (inl e)) (λ l. ⊎_elim (λ p. inl p) (λ q. inr (inr q)) (in-one k h l)) i

  in-all : (k : ℕ) {a b c : List Notice} → Merged a b c → IsIn k (indexes a) ⊎ IsIn k (indexes b) → IsIn k (indexes c)
  in-all k none i = ⊎_elim (λ p. p) (λ q. q) i
  in-all k (left h) i = ⊎_elim (λ p. ⊎_elim (λ e. inl e) (λ l. inr (in-all k h (inl l))) p) (λ q. inr (in-all k h (inr q))) i
  in-all k (right h) i = ⊎_elim (λ p. inr (in-all k h (inl p))) (λ q. ⊎_elim (λ e. inl e) (λ l. inr (in-all k h (inr l))) q) i

  -- just the numbers of the range
  in-range : (n k : ℕ) (xs : List ℕ) → AreFrom n xs → IsIn k xs → (n ≤ k) × (k < n + length xs)
  in-range n k [] from i = absurd i
  in-range n k (x ∷ xs) from i =
      let e = from.0 in
      ⊎_elim (λ (same : k ≡ x). (omega arith, omega arith)) (λ l. let r = in-range (suc n) k xs from.1 l in let lo = r.0 in let hi = r.1 in (omega arith, omega arith)) i

  range-in : (n k : ℕ) (xs : List ℕ) → AreFrom n xs → n ≤ k → k < n + length xs → IsIn k xs
  range-in n k [] from lo hi = absurd (omega arith)
  range-in n k (x ∷ xs) from lo hi =
      let e = from.0 in
      elim (cases_eq k n) [
        | inl same ↦ inl (omega arith)
        | inr other ↦ inr (range-in (suc n) k xs from.1 (above-of n k lo other) (omega arith))
      ] where
        above-of : (n k : ℕ) → n ≤ k → (k ≡ n → ⊥) → suc n ≤ k
        above-of n k lo other = elim (cases_lt n k) [ inl low ↦ omega arith | inr high ↦ absurd (other (omega arith)) ]

pub rule-is-protocol : RulesAreProtocols
rule-is-protocol items views h =
    let many : length h.taken + length items ≡ length (notices_from 0 h.pushed) = sym (length-append h.taken items) ∙ ap length h.whole in
    let all = notices-length 0 h.pushed in
    let from = from-first 0 h.taken items h.pushed h.whole in
    let rises_both = rises 0 h.merged from in
    let count : length (indexes h.taken) ≡ length h.taken = length-map h.taken (λ x. x.index) in
    let start : 0 + length h.taken ≡ length h.taken = omega arith in
    record {
      first = length h.taken;
      consecutive = subst (λ (k : ℕ). AreFrom k (indexes items)) start (from-rest 0 h.taken items h.pushed h.whole);
      ends = omega arith;
      mine_rises = rises_both.0;
      theirs_rises = rises_both.1;
      apart = λ n i j. apart 0 n h.merged from i j;
      together = λ n. (
        (λ i. let r = in-range 0 n (indexes h.taken) from (in-all n h.merged i) in let hi = r.1 in omega arith),
        (λ low. in-one n h.merged (range-in 0 n (indexes h.taken) from (omega arith) (omega arith))),
      );
    }
