-- Two lists of notices are merged by their indexes.
use Rattle.std.proofs.Common.{◌≡◌, ◌≢◌, ℕ, suc, ◌+◌, ◌<◌, ◌≤◌, List, [], ◌∷◌, ◌++◌, drop, get_or, length, refl, ap, sym, subst, ◌∙◌, arith, add-one, append-nil, append_assoc, length-drop, inl, inr, nat_eq, true, false, true≢false, eq-eqb, ne_eqb}
use Rattle.std.specs.Prelude.{Option, Some, None}
use Rattle.std.proofs.lemmas.List.{drop_all, drop_more}
use Rattle.std.proofs.lemmas.Bool.{cases_eq, cases_lt}
use Rattle.mq_notices.specs.declared.notice.Notice.{Notice}
use Rattle.mq_notices.specs.Merging.{IsNext, has_head}
use Rattle.mq_notices.specs.Notices.{Merged, notice, notices_from, numbers_in, with_number}
use Rattle.mq_notices.specs.Notices.Merged.{none, left, right}
use Rattle.mq_notices.proofs.Lists.{merged-length, notices-length}

abbrev Above : ℕ → List Notice → Type 0
Above n [] = Unit {0}
Above n (x ∷ xs) = (n ≤ x.index) × Above n xs

notices-above : (m n : ℕ) (xs : List (Option ℕ)) → m ≤ n → Above m (notices_from n xs)
notices-above m n [] le = tt
notices-above m n (x ∷ xs) le = (le, notices-above m (suc n) xs (omega arith))

merged-above : (n : ℕ) {a b c : List Notice} → Merged a b c → Above n c → Above n a × Above n b
merged-above n none above = (tt, tt)
merged-above n (left h) above = let r = merged-above n h above.1 in ((above.0, r.0), r.1)
merged-above n (right h) above = let r = merged-above n h above.1 in (r.0, (above.0, r.1))

-- its head is the next one where it has the index
take-left : {m n : Notice} {ms ys ns : List Notice} → Merged (m ∷ ms) ys (n ∷ ns) → m.index ≡ n.index → Above (suc n.index) ns → (m ≡ n) × Merged ms ys ns
take-left (left h) same above = (refl, h)
take-left {n = n} (right h) same above = let low = (merged-above (suc n.index) h above).0.0 in absurd (omega arith)

no-index : (m k : ℕ) → nat_eq m k ≡ false → m ≢ k
no-index m k other e = true≢false (sym (eq-eqb m k e) ∙ other)

take-right : {n : Notice} {xs ys ns : List Notice} → Merged xs ys (n ∷ ns) → has_head n.index xs ≡ false → (rest : List Notice) × (ys ≡ n ∷ rest) × Merged xs rest ns
take-right {n = n} (left h) other = absurd (no-index n.index n.index other refl)
take-right (right {b = b} h) other = (b, refl, h)

head-same : (x y : Notice) (xs ys : List Notice) → x ∷ xs ≡ y ∷ ys → (x ≡ y) × (xs ≡ ys)
head-same x y xs ys e = (cc, cc)

same-index : (m k : ℕ) → nat_eq m k ≡ true → m ≡ k
same-index m k is = elim (cases_eq m k) [
  | inl e ↦ e
  | inr other ↦ absurd (true≢false (sym is ∙ ne_eqb m k other))
]

-- a notice with this index is there
pub head-there : (xs : List Notice) (k index : ℕ) → has_head index (drop k xs) ≡ true → k < length xs
head-there xs k index is = elim (cases_lt k (length xs)) [
  | inl low ↦ low
  | inr high ↦ absurd (true≢false (sym is ∙ ap (λ (l : List Notice). has_head index l) (drop_all k xs high)))
]

head-index : (xs : List Notice) (k index : ℕ) (d : Notice) → has_head index (drop k xs) ≡ true → (get_or xs k d).index ≡ index
head-index xs k index d is =
    let e : nat_eq (get_or xs k d).index index ≡ true = ap (λ (l : List Notice). has_head index l) (sym (drop_more xs k d (head-there xs k index is))) ∙ is in
    same-index (get_or xs k d).index index e

module _ (mine theirs : List Notice) (a b index : ℕ) (d : Notice) where
  pub next-left : b ≤ length theirs → has_head index (drop a mine) ≡ true → IsNext mine theirs a b (a + 1) b index (get_or mine a d)
  next-left within is =
      let low = head-there mine a index is in
      let same = head-index mine a index d is in
      record {
        on = omega arith;
        first_in = omega arith;
        second_in = within;
        rest = λ n ns merged.
            let here : Merged (get_or mine a d ∷ drop (a + 1) mine) (drop b theirs) (notice index n ∷ notices_from (suc index) ns) = subst (λ (l : List Notice). Merged l (drop b theirs) (notices_from index (n ∷ ns))) (drop_more mine a d low) merged in
            let t = take-left here same (notices-above (suc index) (suc index) ns (omega arith)) in
            (ap (λ (y : Notice). y.number) t.0, t.1);
      }

  -- where the first list has no notice with this index, the second one has
  pub right-there : (n : Option ℕ) (ns : List (Option ℕ)) → has_head index (drop a mine) ≡ false → Merged (drop a mine) (drop b theirs) (notices_from index (n ∷ ns)) → b < length theirs
  right-there n ns other merged = elim (cases_lt b (length theirs)) [
    | inl low ↦ low
    | inr high ↦
        let t = take-right merged other in
        let none_is : drop b theirs ≡ [] = drop_all b theirs high in
        let is : drop b theirs ≡ notice index n ∷ t.0 = t.1 in absurd (cc)
  ]

  pub next-right : a ≤ length mine → b < length theirs → has_head index (drop a mine) ≡ false → IsNext mine theirs a b a (b + 1) index (get_or theirs b d)
  next-right within low other = record {
    on = omega arith;
    first_in = within;
    second_in = omega arith;
    rest = λ n ns merged.
        let t = take-right merged other in
        let same = head-same (get_or theirs b d) (notice index n) (drop (b + 1) theirs) t.0 (sym (drop_more theirs b d low) ∙ t.1) in
        (ap (λ (y : Notice). y.number) same.0, subst (λ (l : List Notice). Merged (drop a mine) l (notices_from (suc index) ns)) (sym same.1) t.2);
  }

-- ---- the loop

-- of all that was pushed, the first `index` are in the list, and the rest stands at the two places
pub record MergesOn (mine theirs : List Notice) (index a b : ℕ) (into : List ℕ) (pushed : List (Option ℕ)) : Type 0 where
  pub rest : List (Option ℕ)
  pub merged : Merged (drop a mine) (drop b theirs) (notices_from index rest)
  pub numbers : numbers_in pushed ≡ into ++ numbers_in rest

with-split : (o : Option ℕ) (xs : List ℕ) → with_number o xs ≡ with_number o [] ++ xs
with-split None xs = refl
with-split (Some n) xs = refl

module _ (mine theirs : List Notice) (index a b : ℕ) (into : List ℕ) (pushed : List (Option ℕ)) (on : MergesOn mine theirs index a b into pushed) where
  left-over : length (drop a mine) + length (drop b theirs) ≡ length on.rest
  left-over = merged-length on.merged ∙ notices-length index on.rest

  pub some-left : index < length mine + length theirs → a + b ≡ index → 0 < length on.rest
  some-left low places = let l = left-over in let p = length-drop a mine in let q = length-drop b theirs in omega arith

  pub all-merged : length mine + length theirs ≤ index → a + b ≡ index → a ≤ length mine → b ≤ length theirs → into ≡ numbers_in pushed
  all-merged end places first second =
      let l = left-over in let p = length-drop a mine in let q = length-drop b theirs in
      let none_left : length on.rest ≡ 0 = omega arith in
      sym (append-nil into) ∙ ap (λ (os : List (Option ℕ)). into ++ numbers_in os) (sym (empty on.rest none_left)) ∙ sym on.numbers where
        empty : (l : List (Option ℕ)) → length l ≡ 0 → l ≡ []
        empty [] e = refl
        empty (x ∷ xs) e = absurd (omega arith)

  pub split-rest : 0 < length on.rest → (x : Option ℕ) × (xs : List (Option ℕ)) × (on.rest ≡ x ∷ xs)
  split-rest some = parts on.rest some where
    parts : (l : List (Option ℕ)) → 0 < length l → (x : Option ℕ) × (xs : List (Option ℕ)) × (l ≡ x ∷ xs)
    parts [] low = absurd (omega arith)
    parts (x ∷ xs) low = (x, xs, refl)

  pub some-next : 0 < length on.rest → (x : Option ℕ) × (xs : List (Option ℕ)) × Merged (drop a mine) (drop b theirs) (notices_from index (x ∷ xs))
  some-next some = let p = split-rest some in (p.0, p.1, subst (λ (l : List (Option ℕ)). Merged (drop a mine) (drop b theirs) (notices_from index l)) p.2 on.merged)

  pub goes-on : (c d : ℕ) (new : List ℕ) (x : Notice) → 0 < length on.rest → IsNext mine theirs a b c d index x → new ≡ into ++ with_number x.number [] → MergesOn mine theirs (index + 1) c d new pushed
  goes-on c d new x some next items =
      let p = split-rest some in
      let here = subst (λ (l : List (Option ℕ)). Merged (drop a mine) (drop b theirs) (notices_from index l)) p.2 on.merged in
      let r = next.rest p.0 p.1 here in
      let split : numbers_in on.rest ≡ with_number x.number [] ++ numbers_in p.1 = ap (λ (l : List (Option ℕ)). numbers_in l) p.2 ∙ with-split p.0 (numbers_in p.1) ∙ ap (λ (o : Option ℕ). with_number o [] ++ numbers_in p.1) (sym r.0) in
      record {
        rest = p.1;
        merged = rw add-one r.1;
        numbers = on.numbers ∙ ap (λ (l : List ℕ). into ++ l) split ∙ sym (append_assoc into (with_number x.number []) (numbers_in p.1)) ∙ ap (λ (l : List ℕ). l ++ numbers_in p.1) (sym items);
      }

pub begins : (mine theirs : List Notice) (into : List ℕ) (pushed : List (Option ℕ)) → into ≡ [] → Merged mine theirs (notices_from 0 pushed) → MergesOn mine theirs 0 0 0 into pushed
begins mine theirs into pushed none_is merged = record { rest = pushed; merged = merged; numbers = ap (λ (l : List ℕ). l ++ numbers_in pushed) (sym none_is) }
