-- Inodes that keep their form: directories with an entry more or less, and files with other bytes.
use Rattle.std.proofs.Common.{get_or, set, ◌≡◌, ◌≢◌, ℕ, zero, suc, ◌+◌, ◌-◌, ◌<◌, ◌≤◌, inl, inr, List, [], ◌∷◌, ◌++◌, length, take, drop, replicate, Bool, cond, refl, sym, ap, subst, ◌∙◌, arith, get_or-set_same, get_or-set_other, length-append, length-take, length-drop}
use Rattle.std.specs.Prelude.{Option, Some, None}
use Rattle.std.specs.Str.{bytes_eq}
use Rattle.std.proofs.lemmas.Bool.{cases_Bool, cases_eq, cases_lt}
use Rattle.std.proofs.lemmas.List.{get_or_past, get_or-append_right, length-replicate, get_or-take, get_or-drop, get_or_append_left, get_or_at, get_or-replicate}
use Rattle.std.proofs.lemmas.Option.{none-some, same_Some}
use Rattle.std.proofs.lemmas.Slice.Eq.{bytes_eq-Decides}
use Rattle.mq_layout.specs.Places.{file_limit}
use Rattle.mq_layout.specs.Slots.{Entry, IsEntry}
use Rattle.mq_tree.specs.Requests.{cleared, count_names, cut_to, spliced, unused}
use Rattle.mq_tree.specs.Sound.{AreBytes, AreEntries}
use Rattle.mq_tree.specs.Volume.{find}

-- ---- an entry more

-- the first slot that is unused
record Unused (slots : List (Option Entry)) (j k : ℕ) : Type 0 where
  place : ℕ
  is : k ≡ j + place
  low : place < length slots
  none : get_or slots place None ≡ None

unused-found : (j : ℕ) (slots : List (Option Entry)) (k : ℕ) → unused j slots ≡ Some k → Unused slots j k
unused-found j [] k e = absurd (none-some k e)
unused-found j (None ∷ slots) k e = record { place = zero; is = (let f = same_Some j k e in omega arith); low = omega arith; none = refl }
unused-found j (Some s ∷ slots) k e =
    let u = unused-found (suc j) slots k e in
    let i = u.is in
    let l = u.low in
    record { place = suc u.place; is = omega arith; low = omega arith; none = u.none }

-- where there is none, there are as many names as slots
pub unused-none : (j : ℕ) (slots : List (Option Entry)) → unused j slots ≡ None → count_names slots ≡ length slots
unused-none j [] e = refl
unused-none j (None ∷ slots) e = absurd (none-some j (sym e))
unused-none j (Some s ∷ slots) e = let r = unused-none (suc j) slots e in omega arith

-- slots with an entry more
pub record Linked (slots new : List (Option Entry)) (e : Entry) : Type 0 where
  pub place : ℕ
  pub was : get_or slots place None ≡ None
  pub here : get_or new place None ≡ Some e
  pub rest : (l : ℕ) → l ≢ place → get_or new l None ≡ get_or slots l None

pub linked-set : (slots : List (Option Entry)) (k : ℕ) (e : Entry) → unused 0 slots ≡ Some k → Linked slots (set slots k (Some e)) e
linked-set slots k e is =
    let u = unused-found 0 slots k is in
    let same : u.place ≡ k = let i = u.is in omega arith in
    let low = u.low in
    record {
      place = k;
      was = ap (λ (j : ℕ). get_or slots j None) (sym same) ∙ u.none;
      here = get_or-set_same slots k (Some e) None (omega arith);
      rest = λ l other. get_or-set_other slots k l (Some e) None other;
    }

abbrev nothing : Option Entry
nothing = None

pub none-all : (n j : ℕ) → get_or (replicate n nothing) j nothing ≡ nothing
none-all n j = elim (cases_lt j n) [
  | inl l ↦ get_or-replicate n j nothing nothing l
  | inr past ↦ get_or_past (replicate n nothing) j nothing (let e = length-replicate n nothing in omega arith)
]

pub linked-more : (slots : List (Option Entry)) (n : ℕ) (e : Entry) → Linked slots (slots ++ (Some e ∷ replicate n None)) e
linked-more slots n e = record {
  place = length slots;
  was = get_or_past slots (length slots) None (omega arith);
  here = get_or_at slots (Some e) (replicate n None) None (length slots) refl;
  rest = λ l other. elim (cases_lt l (length slots)) [
    | inl low ↦ get_or_append_left slots (Some e ∷ replicate n None) None l low
    | inr past ↦
        let j : l - length slots ≡ suc (l - length slots - 1) = omega arith in
        get_or-append_right slots (Some e ∷ replicate n None) (length slots) l None refl past
        ∙ ap (λ (i : ℕ). get_or (Some e ∷ replicate n None) i None) j ∙ none-all n (l - length slots - 1) ∙ sym (get_or_past slots l None past)
  ];
}

pub linked-entries : (slots new : List (Option Entry)) (e : Entry) → AreEntries slots → IsEntry e → Linked slots new e → AreEntries new
linked-entries slots new e good fine h k f is = elim (cases_eq k h.place) [
  | inl same ↦ subst (λ x. IsEntry x) (same_Some e f (sym h.here ∙ ap (λ (j : ℕ). get_or new j None) (sym same) ∙ is)) fine
  | inr other ↦ good k f (sym (h.rest k other) ∙ is)
]

-- ---- an entry less

-- slots without the first entry of a name
pub record Cleared (slots new : List (Option Entry)) (name : List ℕ) (i : ℕ) : Type 0 where
  pub place : ℕ
  pub entry : Entry
  pub there : get_or slots place None ≡ Some entry
  pub named : entry.name ≡ name
  pub leads : entry.inode ≡ i
  pub gone : get_or new place None ≡ None
  pub rest : (l : ℕ) → l ≢ place → get_or new l None ≡ get_or slots l None

after-slot : (o : Option Entry) (slots new : List (Option Entry)) (name : List ℕ) (i : ℕ) → Cleared slots new name i → Cleared (o ∷ slots) (o ∷ new) name i
after-slot o slots new name i c = record {
  place = suc c.place;
  entry = c.entry;
  there = c.there;
  named = c.named;
  leads = c.leads;
  gone = c.gone;
  rest = rest;
}
  where
    rest : (l : ℕ) → l ≢ suc c.place → get_or (o ∷ new) l None ≡ get_or (o ∷ slots) l None
    rest zero other = refl
    rest (suc l) other = c.rest l (λ e. other (omega arith))

first-slot : (s : Entry) (slots : List (Option Entry)) (name : List ℕ) (i : ℕ) → s.name ≡ name → s.inode ≡ i → Cleared (Some s ∷ slots) (None ∷ slots) name i
first-slot s slots name i named leads = record { place = zero; entry = s; there = refl; named = named; leads = leads; gone = refl; rest = rest }
  where
    rest : (l : ℕ) → l ≢ zero → get_or (None ∷ slots) l None ≡ get_or (Some s ∷ slots) l None
    rest zero other = absurd (other refl)
    rest (suc l) other = refl

pub cleared-is : (name : List ℕ) (slots : List (Option Entry)) (i : ℕ) → find name slots ≡ Some i → Cleared slots (cleared name slots) name i
cleared-is name [] i e = absurd (none-some i e)
cleared-is name (None ∷ slots) i e = after-slot None slots (cleared name slots) name i (cleared-is name slots i e)
cleared-is name (Some s ∷ slots) i e = elim (cases_Bool (bytes_eq s.name name)) [
  | inl y ↦
      let f : Some s.inode ≡ Some i = ap (λ (b : Bool). cond b (Some s.inode) (find name slots)) (sym y) ∙ e in
      let new : cleared name (Some s ∷ slots) ≡ None ∷ slots = ap (λ (b : Bool). cond b (None ∷ slots) (Some s ∷ cleared name slots)) y in
      subst (λ xs. Cleared (Some s ∷ slots) xs name i) (sym new) (first-slot s slots name i ((bytes_eq-Decides s.name name).0 y) (same_Some s.inode i f))
  | inr n ↦
      let f : find name slots ≡ Some i = ap (λ (b : Bool). cond b (Some s.inode) (find name slots)) (sym n) ∙ e in
      let new : cleared name (Some s ∷ slots) ≡ Some s ∷ cleared name slots = ap (λ (b : Bool). cond b (None ∷ slots) (Some s ∷ cleared name slots)) n in
      subst (λ xs. Cleared (Some s ∷ slots) xs name i) (sym new) (after-slot (Some s) slots (cleared name slots) name i (cleared-is name slots i f))
]

pub cleared-length : (name : List ℕ) (slots : List (Option Entry)) → length (cleared name slots) ≡ length slots
cleared-length name [] = refl
cleared-length name (None ∷ slots) = ap (λ (n : ℕ). suc n) (cleared-length name slots)
cleared-length name (Some s ∷ slots) = elim (cases_Bool (bytes_eq s.name name)) [
  | inl y ↦ ap (λ (b : Bool). length (cond b (None ∷ slots) (Some s ∷ cleared name slots))) y
  | inr n ↦ ap (λ (b : Bool). length (cond b (None ∷ slots) (Some s ∷ cleared name slots))) n ∙ ap (λ (n : ℕ). suc n) (cleared-length name slots)
]

-- there is a name less
pub cleared-count : (name : List ℕ) (slots : List (Option Entry)) (i : ℕ) → find name slots ≡ Some i → suc (count_names (cleared name slots)) ≡ count_names slots
cleared-count name [] i e = absurd (none-some i e)
cleared-count name (None ∷ slots) i e = cleared-count name slots i e
cleared-count name (Some s ∷ slots) i e = elim (cases_Bool (bytes_eq s.name name)) [
  | inl y ↦ ap (λ (b : Bool). suc (count_names (cond b (None ∷ slots) (Some s ∷ cleared name slots)))) y
  | inr n ↦
      let f : find name slots ≡ Some i = ap (λ (b : Bool). cond b (Some s.inode) (find name slots)) (sym n) ∙ e in
      ap (λ (b : Bool). suc (count_names (cond b (None ∷ slots) (Some s ∷ cleared name slots)))) n ∙ ap (λ (k : ℕ). suc k) (cleared-count name slots i f)
]

-- there are no more names than slots
pub count-most : (slots : List (Option Entry)) → count_names slots ≤ length slots
count-most [] = omega arith
count-most (None ∷ slots) = let l = count-most slots in omega arith
count-most (Some e ∷ slots) = let l = count-most slots in omega arith

pub cleared-entries : (slots new : List (Option Entry)) (name : List ℕ) (i : ℕ) → AreEntries slots → Cleared slots new name i → AreEntries new
cleared-entries slots new name i good c k f is = elim (cases_eq k c.place) [
  | inl same ↦ absurd (none-some f (sym c.gone ∙ ap (λ (j : ℕ). get_or new j None) (sym same) ∙ is))
  | inr other ↦ good k f (sym (c.rest k other) ∙ is)
]

-- a directory without names has no used slot
pub nameless : (slots : List (Option Entry)) (l : ℕ) → count_names slots ≡ 0 → get_or slots l None ≡ None
nameless [] l e = refl
nameless (None ∷ slots) zero e = refl
nameless (None ∷ slots) (suc l) e = nameless slots l e
nameless (Some s ∷ slots) l e = absurd (omega arith)

-- ---- other bytes

bytes-append : (xs ys : List ℕ) → AreBytes xs → AreBytes ys → AreBytes (xs ++ ys)
bytes-append xs ys a b k = elim (cases_lt k (length xs)) [
  | inl low ↦ let e = get_or_append_left xs ys 0 k low in let l = a k in omega arith
  | inr past ↦ let e = get_or-append_right xs ys (length xs) k 0 refl past in let l = b (k - length xs) in omega arith
]

bytes-take : (n : ℕ) (xs : List ℕ) → AreBytes xs → AreBytes (take n xs)
bytes-take n xs a k = elim (cases_lt k n) [
  | inl low ↦ let e = get_or-take n xs k 0 low in let l = a k in omega arith
  | inr past ↦ let s = length-take n xs in let e = get_or_past (take n xs) k 0 (omega arith) in omega arith
]

bytes-drop : (n : ℕ) (xs : List ℕ) → AreBytes xs → AreBytes (drop n xs)
bytes-drop n xs a k = let e = get_or-drop n xs k 0 in let l = a (n + k) in omega arith

abbrev zeros : ℕ → List ℕ
zeros n = replicate n 0

zeros-length : (n : ℕ) → length (zeros n) ≡ n
zeros-length n = length-replicate n 0

pub zeros-at : (n k : ℕ) → get_or (zeros n) k 0 ≡ 0
zeros-at n k = elim (cases_lt k n) [
  | inl low ↦ get_or-replicate n k 0 0 low
  | inr past ↦ get_or_past (zeros n) k 0 (let s = zeros-length n in omega arith)
]

bytes-zeros : (n : ℕ) → AreBytes (zeros n)
bytes-zeros n k = let e = zeros-at n k in omega arith

pub cut-bytes : (size : ℕ) (bytes : List ℕ) → AreBytes bytes → AreBytes (cut_to size bytes)
cut-bytes size bytes a = bytes-append (take size bytes) (zeros (size - length bytes)) (bytes-take size bytes a) (bytes-zeros (size - length bytes))

pub cut-length : (size : ℕ) (bytes : List ℕ) → length (cut_to size bytes) ≡ size
cut-length size bytes =
    let a = length-append (take size bytes) (zeros (size - length bytes)) in
    let b = length-take size bytes in
    let c = zeros-length (size - length bytes) in
    omega arith

pub spliced-bytes : (at : ℕ) (new bytes : List ℕ) → AreBytes new → AreBytes bytes → AreBytes (spliced at new bytes)
spliced-bytes at [] bytes n a = a
spliced-bytes at (x ∷ xs) bytes n a =
    bytes-append (cut_to at bytes ++ (x ∷ xs)) (drop (at + length (x ∷ xs)) bytes) (bytes-append (cut_to at bytes) (x ∷ xs) (cut-bytes at bytes a) n) (bytes-drop (at + length (x ∷ xs)) bytes a)

pub spliced-length : (at : ℕ) (new bytes : List ℕ) → at + length new ≤ file_limit → length bytes ≤ file_limit → length (spliced at new bytes) ≤ file_limit
spliced-length at [] bytes l m = m
spliced-length at (x ∷ xs) bytes l m =
    let a = length-append (cut_to at bytes ++ (x ∷ xs)) (drop (at + length (x ∷ xs)) bytes) in
    let b = length-append (cut_to at bytes) (x ∷ xs) in
    let c = cut-length at bytes in
    let d = length-drop (at + length (x ∷ xs)) bytes in
    omega arith
