-- The entries of a directory in rising order of names, and lists in rising order.
use Rattle.std.proofs.Common.{get_or, ◌≡◌, ◌≢◌, ℕ, zero, suc, ◌<◌, ◌⊎◌, inl, inr, List, [], ◌∷◌, ◌++◌, Bool, true, false, cond, Ordering, Less, Equal, Greater, refl, sym, ap, subst, ◌∙◌, arith}
use Rattle.std.specs.Prelude.{Option, Some, None}
use Rattle.std.specs.Cmp.{IsTotalOrder}
use Rattle.std.specs.Cmp.Lexicographic.{slice_cmp}
use Rattle.std.specs.List.{AllByRecursion, Contains}
use Rattle.std.specs.List.Sorted.{IsStrictlySortedBy}
use Rattle.std.specs.Ordering.{is_lt, nat_cmp, ordering_reverse, ordering_then}
use Rattle.std.proofs.lemmas.Bool.{cases_Bool, true≢false}
use Rattle.std.proofs.lemmas.Cmp.{by_ranked, nat_list_cmp_total, on_total, ranked, tied_itself}
use Rattle.std.proofs.lemmas.Option.{none-some, same_Some}
use Rattle.mq_layout.specs.Slots.{Entry}
use Rattle.mq_tree.specs.ListText.{entries_in, insert_entry}
use Rattle.mq_tree.proofs.VolumePaths.{AreNamesOnce}
use Rattle.mq_tree.proofs.Members.{cons-cases, cons-here, cons-there, none-contained}

pub same-order : (o p : Ordering) → ordering_then o p ≡ Equal → (o ≡ Equal) × (p ≡ Equal)
same-order Less p e = absurd (cc)
same-order Equal p e = (refl, e)
same-order Greater p e = absurd (cc)

pub less-equal : {R : Type 0} → Less ≡ Equal → R
less-equal e = absurd (cc)

less-is : (o : Ordering) → is_lt o ≡ true → o ≡ Less
less-is Less t = refl
less-is Equal t = absurd (true≢false (sym t))
less-is Greater t = absurd (true≢false (sym t))

greater-equal : {R : Type 0} → Greater ≡ Equal → R
greater-equal e = absurd (cc)

pub same-number : (x y : ℕ) → nat_cmp x y ≡ Equal → x ≡ y
same-number x y e = by_ranked (x < y) (x ≡ y) (y < x) (nat_cmp x y) (ranked x y (nat_cmp x y) refl) (λ o h. less-equal (sym o ∙ e)) (λ o h. h) (λ o h. greater-equal (sym o ∙ e))

-- names that neither come before each other are the same
same-name : (xs ys : List ℕ) → slice_cmp nat_cmp xs ys ≡ Equal → xs ≡ ys
same-name [] [] e = refl
same-name [] (y ∷ ys) e = less-equal e
same-name (x ∷ xs) [] e = greater-equal e
same-name (x ∷ xs) (y ∷ ys) e =
    let p = same-order (nat_cmp x y) (slice_cmp nat_cmp xs ys) e in
    ap (λ (z : ℕ). z ∷ xs) (same-number x y p.0) ∙ ap (λ (zs : List ℕ). y ∷ zs) (same-name xs ys p.1)

module _ {A : Type 0} (P : A → Type 0) where
  pub all-contained : (xs : List A) → AllByRecursion P xs → (x : A) → Contains xs x → P x
  all-contained [] all x c = none-contained x c
  all-contained (y ∷ xs) all x c = elim (cons-cases y xs x c) [
    | inl here ↦ subst P here all.0
    | inr there ↦ all-contained xs all.1 x there
  ]

  pub contained-all : (xs : List A) → ((x : A) → Contains xs x → P x) → AllByRecursion P xs
  contained-all [] h = tt
  contained-all (y ∷ xs) h = (h y (cons-here y xs y refl), contained-all xs (λ x c. h x (cons-there y xs x c)))

-- ---- lists in rising order

module _ {A : Type 0} (cmp : A → A → Ordering) (total : IsTotalOrder cmp) where
  itself : {R : Type 0} (x y : A) → x ≡ y → cmp x y ≡ Less → R
  itself x y e less = less-equal (sym less ∙ ap (λ (z : A). cmp x z) (sym e) ∙ tied_itself total x)

  first-below : (x : A) (xs : List A) → IsStrictlySortedBy cmp (x ∷ xs) → (y : A) → Contains xs y → cmp x y ≡ Less
  unfolding IsStrictlySortedBy
  first-below x xs s y c = all-contained (λ z. cmp x z ≡ Less) xs s.0 y c

  rest-sorted : (x : A) (xs : List A) → IsStrictlySortedBy cmp (x ∷ xs) → IsStrictlySortedBy cmp xs
  unfolding IsStrictlySortedBy
  rest-sorted x xs s = s.1

  same-first : (x : A) (xs : List A) (y : A) (ys : List A) → IsStrictlySortedBy cmp (x ∷ xs) → IsStrictlySortedBy cmp (y ∷ ys) → Contains (y ∷ ys) x → Contains (x ∷ xs) y → x ≡ y
  same-first x xs y ys s t c d = elim (cons-cases y ys x c) [
    | inl here ↦ sym here
    | inr there ↦ elim (cons-cases x xs y d) [
      | inl same ↦ same
      | inr other ↦ itself x x refl (total.trans x y x (first-below x xs s y other) (first-below y ys t x there))
    ]
  ]

  same-rest : (x : A) (xs : List A) (y : A) (ys : List A) → IsStrictlySortedBy cmp (x ∷ xs) → x ≡ y → ((z : A) → Contains (x ∷ xs) z → Contains (y ∷ ys) z) → (z : A) → Contains xs z → Contains ys z
  same-rest x xs y ys s e h z c = elim (cons-cases y ys z (h z (cons-there x xs z c))) [
    | inl here ↦ itself x z (e ∙ here) (first-below x xs s z c)
    | inr there ↦ there
  ]

  -- a list in strictly rising order is determined by what it contains
  pub sorted-same : (xs ys : List A) → IsStrictlySortedBy cmp xs → IsStrictlySortedBy cmp ys → ((z : A) → Contains xs z → Contains ys z) → ((z : A) → Contains ys z → Contains xs z) → xs ≡ ys
  sorted-same [] [] s t h k = refl
  sorted-same [] (y ∷ ys) s t h k = none-contained y (k y (cons-here y ys y refl))
  sorted-same (x ∷ xs) [] s t h k = none-contained x (h x (cons-here x xs x refl))
  sorted-same (x ∷ xs) (y ∷ ys) s t h k =
      let e = same-first x xs y ys s t (h x (cons-here x xs x refl)) (k y (cons-here y ys y refl)) in
      let rest = sorted-same xs ys (rest-sorted x xs s) (rest-sorted y ys t) (same-rest x xs y ys s e h) (same-rest y ys x xs t (sym e) k) in
      ap (λ (z : A). z ∷ xs) e ∙ ap (λ (zs : List A). y ∷ zs) rest

-- ---- entries in rising order of names

abbrev pub entry_cmp : Entry → Entry → Ordering
entry_cmp e f = slice_cmp nat_cmp e.name f.name

insert-cases : (e : Entry) (es : List Entry) (x : Entry) → Contains (insert_entry e es) x → (e ≡ x) ⊎ Contains es x
insert-cases e [] x c = cons-cases e [] x c
insert-cases e (f ∷ es) x c = go (is_lt (entry_cmp e f)) c (λ d. insert-cases e es x d)
  where
    go : (b : Bool) → Contains (cond b (e ∷ f ∷ es) (f ∷ insert_entry e es)) x → (Contains (insert_entry e es) x → (e ≡ x) ⊎ Contains es x) → (e ≡ x) ⊎ Contains (f ∷ es) x
    go true d rest = cons-cases e (f ∷ es) x d
    go false d rest = elim (cons-cases f (insert_entry e es) x d) [
      | inl here ↦ inr (cons-here f es x here)
      | inr there ↦ elim (rest there) [ inl same ↦ inl same | inr old ↦ inr (cons-there f es x old) ]
    ]

insert-has : (e : Entry) (es : List Entry) (x : Entry) → (e ≡ x) ⊎ Contains es x → Contains (insert_entry e es) x
insert-has e [] x (inl same) = cons-here e [] x same
insert-has e [] x (inr c) = none-contained x c
insert-has e (f ∷ es) x h = go (is_lt (entry_cmp e f)) h (λ k. insert-has e es x k)
  where
    go : (b : Bool) → (e ≡ x) ⊎ Contains (f ∷ es) x → ((e ≡ x) ⊎ Contains es x → Contains (insert_entry e es) x) → Contains (cond b (e ∷ f ∷ es) (f ∷ insert_entry e es)) x
    go true (inl same) rest = cons-here e (f ∷ es) x same
    go true (inr c) rest = cons-there e (f ∷ es) x c
    go false (inl same) rest = cons-there f (insert_entry e es) x (rest (inl same))
    go false (inr c) rest = elim (cons-cases f es x c) [
      | inl here ↦ cons-here f (insert_entry e es) x here
      | inr there ↦ cons-there f (insert_entry e es) x (rest (inr there))
    ]

entry_total : IsTotalOrder entry_cmp
entry_total = on_total (λ (e : Entry). e.name) nat_list_cmp_total

insert-sorted : (e : Entry) (es : List Entry) → IsStrictlySortedBy entry_cmp es → ((f : Entry) → Contains es f → e.name ≢ f.name) → IsStrictlySortedBy entry_cmp (insert_entry e es)
unfolding IsStrictlySortedBy
insert-sorted e [] s new = (tt, tt)
insert-sorted e (f ∷ es) s new = go (entry_cmp e f) refl (insert-sorted e es s.1 (λ x c. new x (cons-there f es x c)))
  where
    go : (o : Ordering) → entry_cmp e f ≡ o → IsStrictlySortedBy entry_cmp (insert_entry e es) → IsStrictlySortedBy entry_cmp (cond (is_lt o) (e ∷ f ∷ es) (f ∷ insert_entry e es))
    go Less is rest = (
      contained-all (λ y. entry_cmp e y ≡ Less) (f ∷ es) (λ y c. elim (cons-cases f es y c) [
        | inl here ↦ ap (λ (x : Entry). entry_cmp e x) (sym here) ∙ is
        | inr there ↦ entry_total.trans e f y is (all-contained (λ x. entry_cmp f x ≡ Less) es s.0 y there)
      ]),
      s,
    )
    go Equal is rest = absurd (new f (cons-here f es f refl) (same-name e.name f.name is))
    go Greater is rest = (
      contained-all (λ y. entry_cmp f y ≡ Less) (insert_entry e es) (λ y c. elim (insert-cases e es y c) [
        | inl same ↦ ap (λ (x : Entry). entry_cmp f x) (sym same) ∙ entry_total.antisymm f e ∙ ap (λ (o : Ordering). ordering_reverse o) is
        | inr old ↦ all-contained (λ x. entry_cmp f x ≡ Less) es s.0 y old
      ]),
      rest,
    )

-- entries of two names may be put in turn or the other way round
swap-less : (e f : Entry) (es : List Entry) → entry_cmp e f ≡ Less → insert_entry e (insert_entry f es) ≡ insert_entry f (insert_entry e es)
swap-less e f es l = go es
  where
    first : is_lt (entry_cmp e f) ≡ true
    first = ap (λ (o : Ordering). is_lt o) l

    last : is_lt (entry_cmp f e) ≡ false
    last = ap (λ (o : Ordering). is_lt o) (entry_total.antisymm f e ∙ ap (λ (o : Ordering). ordering_reverse o) l)

    before : (g : Entry) → is_lt (entry_cmp f g) ≡ true → is_lt (entry_cmp e g) ≡ true
    before g t = ap (λ (o : Ordering). is_lt o) (entry_total.trans e f g l (less-is (entry_cmp f g) t))

    go : (es : List Entry) → insert_entry e (insert_entry f es) ≡ insert_entry f (insert_entry e es)
    go [] = rw first (rw last refl)
    go (g ∷ es) = elim (cases_Bool (is_lt (entry_cmp f g))) [
      | inl t ↦ rw t (rw (before g t) (rw first (rw last (rw t refl))))
      | inr n ↦ elim (cases_Bool (is_lt (entry_cmp e g))) [
        | inl t ↦ rw n (rw t (rw last (rw n refl)))
        | inr m ↦ rw n (rw m (rw n (ap (λ (xs : List Entry). g ∷ xs) (go es))))
      ]
    ]

pub insert-swap : (e f : Entry) (es : List Entry) → e.name ≢ f.name → insert_entry e (insert_entry f es) ≡ insert_entry f (insert_entry e es)
insert-swap e f es other = go (entry_cmp e f) refl
  where
    go : (o : Ordering) → entry_cmp e f ≡ o → insert_entry e (insert_entry f es) ≡ insert_entry f (insert_entry e es)
    go Less is = swap-less e f es is
    go Equal is = absurd (other (same-name e.name f.name is))
    go Greater is = sym (swap-less f e es (entry_total.antisymm f e ∙ ap (λ (o : Ordering). ordering_reverse o) is))

pub entries-skip : (slots : List (Option Entry)) → entries_in (slots ++ None ∷ []) ≡ entries_in slots
entries-skip [] = refl
entries-skip (None ∷ slots) = entries-skip slots
entries-skip (Some e ∷ slots) = ap (insert_entry e) (entries-skip slots)

-- a new name behind the slots is one entry more
pub entries-push : (slots : List (Option Entry)) (e : Entry) → ((k : ℕ) (f : Entry) → get_or slots k None ≡ Some f → f.name ≡ e.name → ⊥) → entries_in (slots ++ Some e ∷ []) ≡ insert_entry e (entries_in slots)
entries-push [] e new = refl
entries-push (None ∷ slots) e new = entries-push slots e (λ k f there same. new (suc k) f there same)
entries-push (Some g ∷ slots) e new =
    ap (insert_entry g) (entries-push slots e (λ k f there same. new (suc k) f there same)) ∙ insert-swap g e (entries_in slots) (λ same. new zero g refl same)

-- an entry of a directory stands in one of its slots
pub entries-found : (slots : List (Option Entry)) (e : Entry) → Contains (entries_in slots) e → (k : ℕ) × (get_or slots k None ≡ Some e)
entries-found [] e c = none-contained e c
entries-found (None ∷ slots) e c = let r = entries-found slots e c in (suc r.0, r.1)
entries-found (Some f ∷ slots) e c = elim (insert-cases f (entries_in slots) e c) [
  | inl same ↦ (zero, ap (λ (x : Entry). Some x) same)
  | inr there ↦ let r = entries-found slots e there in (suc r.0, r.1)
]

pub entries-have : (slots : List (Option Entry)) (k : ℕ) (e : Entry) → get_or slots k None ≡ Some e → Contains (entries_in slots) e
entries-have [] k e h = absurd (none-some e h)
entries-have (None ∷ slots) zero e h = absurd (none-some e h)
entries-have (None ∷ slots) (suc k) e h = entries-have slots k e h
entries-have (Some f ∷ slots) zero e h = insert-has f (entries_in slots) e (inl (same_Some f e h))
entries-have (Some f ∷ slots) (suc k) e h = insert-has f (entries_in slots) e (inr (entries-have slots k e h))

once-below : (o : Option Entry) (slots : List (Option Entry)) → AreNamesOnce (o ∷ slots) → AreNamesOnce slots
once-below o slots once k l e f h i same = let s = once (suc k) (suc l) e f h i same in omega arith

pub entries-sorted : (slots : List (Option Entry)) → AreNamesOnce slots → IsStrictlySortedBy entry_cmp (entries_in slots)
unfolding IsStrictlySortedBy
entries-sorted [] once = tt
entries-sorted (None ∷ slots) once = entries-sorted slots (once-below None slots once)
entries-sorted (Some e ∷ slots) once = insert-sorted e (entries_in slots) (entries-sorted slots (once-below (Some e) slots once)) (λ f c same.
    let r = entries-found slots f c in
    let here = once zero (suc r.0) e f refl r.1 same in
    absurd (omega arith))
