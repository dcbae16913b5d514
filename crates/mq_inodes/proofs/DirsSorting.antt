-- Names in rising order, which are the same however they came to stand so.
use Rattle.std.proofs.Common.{Ordering, get_or, ◌≡◌, ℕ, suc, ◌+◌, Bool, false, cond, List, [], ◌∷◌, ◌++◌, refl, sym, ap, subst, ◌∙◌, arith, append_assoc, inl, inr}
use Rattle.std.specs.Prelude.{Option, Some, None}
use Rattle.std.specs.Cmp.{IsStrictWeakOrder}
use Rattle.std.specs.Cmp.Lexicographic.{slice_cmp}
use Rattle.std.specs.FinMap.{nat_cmp-IsAntisymmetric, slice_cmp-IsAntisymmetric}
use Rattle.std.specs.List.{All, sum_by}
use Rattle.std.specs.List.Sorted.{IsPermutation, IsSortedBy}
use Rattle.std.specs.Ordering.{is_lt, nat_cmp, ordering_reverse}
use Rattle.std.specs.Str.{bytes_eq}
use Rattle.std.proofs.lemmas.Bool.{cases_Bool, true≢false}
use Rattle.std.proofs.lemmas.Cmp.{nat_list_cmp_total}
use Rattle.std.proofs.lemmas.List.{append-nil}
use Rattle.std.proofs.lemmas.List.Elements.{All-head, All-tail, All-from_get_or}
use Rattle.std.proofs.lemmas.List.Sums.{sum_by-cons}
use Rattle.std.proofs.lemmas.Slice.Eq.{bytes_eq-Decides}
use Rattle.std.proofs.lemmas.List.Sorted.{ranks_by, sorted_far, sum_by-IsPermutation}
use Rattle.mq_layout.specs.Slots.{Entry}
use Rattle.mq_inodes.specs.Dirs.{names_of}
use Rattle.mq_tree.specs.Requests.{insert_name, names_in}

abbrev pub before : List ℕ → List ℕ → Bool
before x y = is_lt (slice_cmp nat_cmp x y)

pub names-ordered : IsStrictWeakOrder before
names-ordered = ranks_by nat_list_cmp_total (λ (x : List ℕ). x)

lt-cases : (o : Ordering) → is_lt o ≡ false → is_lt (ordering_reverse o) ≡ false → o ≡ Ordering.Equal
lt-cases Ordering.Less e f = absurd (true≢false e)
lt-cases Ordering.Equal e f = refl
lt-cases Ordering.Greater e f = absurd (true≢false f)

same-name : (x y : List ℕ) → before x y ≡ false → before y x ≡ false → x ≡ y
same-name x y e f = slice_cmp-IsAntisymmetric nat_cmp-IsAntisymmetric x y (lt-cases (slice_cmp nat_cmp x y) e (ap is_lt (sym (nat_list_cmp_total.antisymm y x)) ∙ f))

-- ---- lists that rise

-- no name of the list comes before this one
abbrev NoneBefore : List ℕ → List (List ℕ) → Type 0
NoneBefore x [] = Unit {0}
NoneBefore x (y ∷ ys) = (before y x ≡ false) × NoneBefore x ys

abbrev Rises : List (List ℕ) → Type 0
Rises [] = Unit {0}
Rises (x ∷ xs) = NoneBefore x xs × Rises xs

none-insert : (x name : List ℕ) (xs : List (List ℕ)) → before name x ≡ false → NoneBefore x xs → NoneBefore x (insert_name name xs)
none-insert x name [] e h = (e, tt)
none-insert x name (y ∷ ys) e h = elim (cases_Bool (before name y)) [
  | inl t ↦ subst (λ (zs : List (List ℕ)). NoneBefore x zs) (sym (ap (λ (b : Bool). cond b (name ∷ y ∷ ys) (y ∷ insert_name name ys)) t)) (e, h)
  | inr f ↦ subst (λ (zs : List (List ℕ)). NoneBefore x zs) (sym (ap (λ (b : Bool). cond b (name ∷ y ∷ ys) (y ∷ insert_name name ys)) f)) (h.0, none-insert x name ys e h.1)
]

none-chain : (x y : List ℕ) (ys : List (List ℕ)) → before y x ≡ false → NoneBefore y ys → NoneBefore x ys
none-chain x y [] e h = tt
none-chain x y (z ∷ zs) e h = (names-ordered.chain z y x h.0 e, none-chain x y zs e h.1)

rises-insert : (name : List ℕ) (xs : List (List ℕ)) → Rises xs → Rises (insert_name name xs)
rises-insert name [] h = (tt, tt)
rises-insert name (y ∷ ys) h = elim (cases_Bool (before name y)) [
  | inl t ↦ subst (λ (zs : List (List ℕ)). Rises zs) (sym (ap (λ (b : Bool). cond b (name ∷ y ∷ ys) (y ∷ insert_name name ys)) t)) ((names-ordered.one_way name y t, none-chain name y ys (names-ordered.one_way name y t) h.0), h)
  | inr f ↦ subst (λ (zs : List (List ℕ)). Rises zs) (sym (ap (λ (b : Bool). cond b (name ∷ y ∷ ys) (y ∷ insert_name name ys)) f)) (none-insert y name ys f h.0, rises-insert name ys h.1)
]

names_in-rises : (slots : List (Option Entry)) → Rises (names_in slots)
names_in-rises [] = tt
names_in-rises (None ∷ slots) = names_in-rises slots
names_in-rises (Some e ∷ slots) = rises-insert e.name (names_in slots) (names_in-rises slots)

-- a sort leaves such a list
none-all : (x : List ℕ) (xs : List (List ℕ)) → All (λ y. before y x ≡ false) xs → NoneBefore x xs
none-all x [] h = tt
none-all x (y ∷ ys) h = (All-head (λ z. before z x ≡ false) y ys h, none-all x ys (All-tail (λ z. before z x ≡ false) y ys h))

sorted-tail : (x : List ℕ) (xs : List (List ℕ)) → IsSortedBy before (x ∷ xs) → IsSortedBy before xs
sorted-tail x xs h k d low l = let e : suc k + 1 ≡ suc (k + 1) = omega arith in subst (λ j. before (get_or (x ∷ xs) j d) (get_or xs k d) ≡ false) e (h (suc k) d (omega arith) (omega arith))

sorted-rises : (xs : List (List ℕ)) → IsSortedBy before xs → Rises xs
sorted-rises [] h = tt
sorted-rises (x ∷ xs) h =
    (none-all x xs (All-from_get_or (λ y. before y x ≡ false) xs x (λ i l. sorted_far before names-ordered (x ∷ xs) h 0 (suc i) x (omega arith) (omega arith))), sorted-rises xs (sorted-tail x xs h))

-- ---- how often a name stands in a list

abbrev once : List ℕ → List ℕ → ℕ
once x y = cond (bytes_eq x y) 1 0

abbrev count : List ℕ → List (List ℕ) → ℕ
count x [] = 0
count x (y ∷ ys) = once x y + count x ys

count-sum : (x : List ℕ) (ys : List (List ℕ)) → sum_by (once x) ys ≡ count x ys
count-sum x [] = refl
count-sum x (y ∷ ys) = sum_by-cons (once x) y ys ∙ ap (λ (n : ℕ). once x y + n) (count-sum x ys)

once-same : (x : List ℕ) → once x x ≡ 1
once-same x = ap (λ (b : Bool). cond b 1 0) ((bytes_eq-Decides x x).1 refl)

count-insert : (x name : List ℕ) (xs : List (List ℕ)) → count x (insert_name name xs) ≡ once x name + count x xs
count-insert x name [] = refl
count-insert x name (y ∷ ys) = elim (cases_Bool (before name y)) [
  | inl t ↦ ap (λ (b : Bool). count x (cond b (name ∷ y ∷ ys) (y ∷ insert_name name ys))) t
  | inr f ↦ ap (λ (b : Bool). count x (cond b (name ∷ y ∷ ys) (y ∷ insert_name name ys))) f ∙ (let h = count-insert x name ys in omega arith)
]

count-names_in : (x : List ℕ) (slots : List (Option Entry)) → count x (names_in slots) ≡ count x (names_of slots)
count-names_in x [] = refl
count-names_in x (None ∷ slots) = count-names_in x slots
count-names_in x (Some e ∷ slots) = count-insert x e.name (names_in slots) ∙ ap (λ (n : ℕ). once x e.name + n) (count-names_in x slots)

-- a name that stands in a list before which no name comes is not before it
counted-after : (x y : List ℕ) (ys : List (List ℕ)) (n : ℕ) → count x ys ≡ suc n → NoneBefore y ys → before x y ≡ false
counted-after x y [] n e h = absurd (omega arith)
counted-after x y (z ∷ zs) n e h = elim (cases_Bool (bytes_eq x z)) [
  | inl t ↦ subst (λ (w : List ℕ). before w y ≡ false) (sym ((bytes_eq-Decides x z).0 t)) h.0
  | inr f ↦ counted-after x y zs n (let none : once x z ≡ 0 = ap (λ (b : Bool). cond b 1 0) f in omega arith) h.1
]

not-before-itself : (x : List ℕ) → before x x ≡ false
not-before-itself x = elim (cases_Bool (before x x)) [ inl t ↦ names-ordered.one_way x x t | inr f ↦ f ]

rises-once : (xs ys : List (List ℕ)) → Rises xs → Rises ys → ((x : List ℕ) → count x xs ≡ count x ys) → xs ≡ ys
rises-once [] [] h k e = refl
rises-once [] (y ∷ ys) h k e = absurd (let a = e y in let b = once-same y in omega arith)
rises-once (x ∷ xs) [] h k e = absurd (let a = e x in let b = once-same x in omega arith)
rises-once (x ∷ xs) (y ∷ ys) h k e =
    let a : count x (y ∷ ys) ≡ suc (count x xs) = (let b = once-same x in let c = e x in omega arith) in
    let b : count y (x ∷ xs) ≡ suc (count y ys) = (let b = once-same y in let c = e y in omega arith) in
    let same : x ≡ y = same-name x y (counted-after x y (y ∷ ys) (count x xs) a (not-before-itself y, k.0)) (counted-after y x (x ∷ xs) (count y ys) b (not-before-itself x, h.0)) in
    let rest = rises-once xs ys h.1 k.1 (λ z. let c = e z in let d = ap (once z) same in omega arith) in
    ap (λ (z : List ℕ). z ∷ xs) same ∙ ap (λ (zs : List (List ℕ)). y ∷ zs) rest

pub sorted-names : (slots : List (Option Entry)) (names sorted : List (List ℕ)) → names ≡ names_of slots → IsPermutation names sorted → IsSortedBy before sorted → sorted ≡ names_in slots
sorted-names slots names sorted e p s =
    rises-once sorted (names_in slots) (sorted-rises sorted s) (names_in-rises slots) (λ x.
    sym (count-sum x sorted) ∙ sum_by-IsPermutation (once x) names sorted p ∙ count-sum x names ∙ ap (count x) e ∙ sym (count-names_in x slots))

-- ---- names as they are gathered

pub name-pushed : (old new rest before_it all : List (List ℕ)) (name : List ℕ) → new ≡ old ++ name ∷ [] → before_it ≡ name ∷ rest → old ++ before_it ≡ all → new ++ rest ≡ all
name-pushed old new rest before_it all name e is h =
    ap (λ (xs : List (List ℕ)). xs ++ rest) e ∙ append_assoc old (name ∷ []) rest ∙ ap (λ (xs : List (List ℕ)). old ++ xs) (sym is) ∙ h

pub names-end : (names rest all : List (List ℕ)) → rest ≡ [] → names ++ rest ≡ all → names ≡ all
names-end names rest all e h = sym (append-nil names) ∙ ap (λ (xs : List (List ℕ)). names ++ xs) (sym e) ∙ h

pub names-append : (xs ys : List (Option Entry)) → names_of (xs ++ ys) ≡ names_of xs ++ names_of ys
names-append [] ys = refl
names-append (None ∷ xs) ys = names-append xs ys
names-append (Some e ∷ xs) ys = ap (λ (zs : List (List ℕ)). e.name ∷ zs) (names-append xs ys)

pub block-gathered : (old new rest part before_it all : List (List ℕ)) → new ≡ old ++ part → before_it ≡ part ++ rest → old ++ before_it ≡ all → new ++ rest ≡ all
block-gathered old new rest part before_it all e is h =
    ap (λ (xs : List (List ℕ)). xs ++ rest) e ∙ append_assoc old part rest ∙ ap (λ (xs : List (List ℕ)). old ++ xs) (sym is) ∙ h
