-- Merged lists, and notices with consecutive indexes.
use Rattle.std.proofs.Common.{◌≡◌, ℕ, suc, ◌+◌, List, [], ◌∷◌, ◌++◌, length, refl, ap, ◌∙◌, arith, ⊎_elim, inl, inr}
use Rattle.std.specs.Prelude.{Option, Some, None, false}
use Rattle.std.specs.Option.{is_some}
use Rattle.mq_notices.specs.Notices.{HasLast, Merged, all_of, notice, notices_from, numbers_in, numbers_of, with_number}
use Rattle.mq_notices.specs.Notices.Merged.{none, left, right}
use Rattle.mq_notices.specs.declared.notice.Notice.{Notice}

-- ---- merged lists

pub merged-left : {X : Type 0} (x : X) {a b c : List X} → Merged a b c → Merged (a ++ x ∷ []) b (c ++ x ∷ [])
merged-left x none = left none
merged-left x (left h) = left (merged-left x h)
merged-left x (right h) = right (merged-left x h)

pub merged-right : {X : Type 0} (x : X) {a b c : List X} → Merged a b c → Merged a (b ++ x ∷ []) (c ++ x ∷ [])
merged-right x none = right none
merged-right x (left h) = left (merged-right x h)
merged-right x (right h) = right (merged-right x h)

pub merged-length : {X : Type 0} {a b c : List X} → Merged a b c → length a + length b ≡ length c
merged-length none = refl
merged-length (left h) = let e = merged-length h in omega arith
merged-length (right h) = let e = merged-length h in omega arith

pub merged-last : {a b c : List Notice} → Merged a b c → HasLast b → HasLast c
merged-last none is = is
merged-last (left h) is = inr (merged-last h is)
merged-last (right h) is = ⊎_elim (λ e. inl e) (λ k. inr (merged-last h k)) is

with-left : (o : Option ℕ) {a b c : List ℕ} → Merged a b c → Merged (with_number o a) b (with_number o c)
with-left None h = h
with-left (Some n) h = left h

with-right : (o : Option ℕ) {a b c : List ℕ} → Merged a b c → Merged a (with_number o b) (with_number o c)
with-right None h = h
with-right (Some n) h = right h

pub merged-numbers : {a b c : List Notice} → Merged a b c → Merged (numbers_of a) (numbers_of b) (numbers_of c)
merged-numbers none = none
merged-numbers (left {x = x} h) = with-left x.number (merged-numbers h)
merged-numbers (right {x = x} h) = with-right x.number (merged-numbers h)

-- ---- notices

pub notices-length : (n : ℕ) (xs : List (Option ℕ)) → length (notices_from n xs) ≡ length xs
notices-length n [] = refl
notices-length n (x ∷ xs) = ap suc (notices-length (suc n) xs)

-- one more notice
pub notices-next : (n : ℕ) (xs : List (Option ℕ)) (x : Notice) → x.index ≡ n + length xs → notices_from n xs ++ x ∷ [] ≡ notices_from n (xs ++ x.number ∷ [])
notices-next n [] x is = let at : x.index ≡ n = omega arith in ap (λ (i : ℕ). notice i x.number ∷ []) at
notices-next n (y ∷ ys) x is = ap (λ (l : List Notice). notice n y ∷ l) (notices-next (suc n) ys x (omega arith))

nothing-after : (xs ys : List Notice) → xs ++ ys ≡ [] → ys ≡ []
nothing-after [] ys e = e
nothing-after (x ∷ xs) ys e = absurd (cc)

-- where the last notice was taken, nothing is left
pub last-is-last : (n : ℕ) (ns : List ℕ) (taken items : List Notice) → taken ++ items ≡ notices_from n (all_of ns) → HasLast taken → items ≡ []
last-is-last n ns [] items e is = absurd is
last-is-last n [] (x ∷ xs) items e is = let rest : xs ++ items ≡ [] = cc in nothing-after xs items rest
last-is-last n (k ∷ ks) (x ∷ xs) items e is =
    let rest : xs ++ items ≡ notices_from (suc n) (all_of ks) = cc in
    let head : x ≡ notice n (Some k) = cc in
    ⊎_elim (λ (none_is : x.number ≡ None). let some_is : x.number ≡ Some k = ap (λ (y : Notice). y.number) head in absurd (cc)) (λ l. last-is-last (suc n) ks xs items rest l) is

pub empty-of : (xs : List Notice) → length xs ≡ 0 → xs ≡ []
empty-of [] e = refl
empty-of (x ∷ xs) e = absurd (omega arith)

pub last-pushed : (xs : List Notice) (x : Notice) → x.number ≡ None → HasLast (xs ++ x ∷ [])
last-pushed [] x none_is = inl none_is
last-pushed (y ∷ ys) x none_is = inr (last-pushed ys x none_is)

pub none-of : (o : Option ℕ) → is_some o ≡ false → o ≡ None
none-of None e = refl
none-of (Some n) e = absurd (cc)

-- ---- their numbers

with-more : (o : Option ℕ) (xs ys : List ℕ) → with_number o (xs ++ ys) ≡ with_number o xs ++ ys
with-more None xs ys = refl
with-more (Some n) xs ys = refl

-- the numbers of one more notice
pub numbers-more : (xs : List Notice) (x : Notice) → numbers_of (xs ++ x ∷ []) ≡ numbers_of xs ++ with_number x.number []
numbers-more [] x = refl
numbers-more (y ∷ ys) x = ap (λ (ns : List ℕ). with_number y.number ns) (numbers-more ys x) ∙ with-more y.number (numbers_of ys) (with_number x.number [])

-- one more push
pub pushed-more : (xs : List (Option ℕ)) (o : Option ℕ) → numbers_in (xs ++ o ∷ []) ≡ numbers_in xs ++ with_number o []
pushed-more [] o = refl
pushed-more (x ∷ xs) o = ap (λ (ns : List ℕ). with_number x ns) (pushed-more xs o) ∙ with-more x (numbers_in xs) (with_number o [])

pub numbers-from : (n : ℕ) (os : List (Option ℕ)) → numbers_of (notices_from n os) ≡ numbers_in os
numbers-from n [] = refl
numbers-from n (o ∷ os) = ap (λ (ns : List ℕ). with_number o ns) (numbers-from (suc n) os)
