-- What the machine answers to events on numbers and home blocks.
use Rattle.std.proofs.Common.{◌≡◌, ℕ, ◌+◌, ◌<◌, ◌&&◌, ◌||◌, Bool, true, false, not, List, [], ◌∷◌, ◌++◌, length, filter, reverse, sym, refl, ap, subst, ◌∙◌, inl, inr, arith, eqb, nat_lt}
use Rattle.std.proofs.lemmas.Bool.{cases_Bool, eq-eqb, ne_eqb, leb-false, lt-leb, lt-ltb}
use Rattle.std.proofs.lemmas.List.{reverse-append, append-nil}
use Rattle.std.proofs.lemmas.List.Elements.{filter-append}
use Rattle.mq_blocks.specs.Drive.{PortState}
use Rattle.mq_blocks.specs.Journal.{is_among}
use Rattle.mq_ledger.specs.KnownJournal.{MayDraw}
use Rattle.mq_ledger.specs.History.{writes, changes, last, of_queue, AreNumbered}
use Rattle.mq_ledger.specs.Items.{end_of, descriptor_blocks}
use Rattle.mq_ledger.specs.Plain.{plain}
use Rattle.mq_ledger.specs.Records.{Ledger, IsClear, IsKnown, HasPlace, own}
use Rattle.mq_ledger.specs.State.{State, front_of, known_of, from_at, port_at}
use Rattle.mq_ledger.specs.declared.tx.Tx.{Tx}
use Rattle.mq_ledger.proofs.History.{last-changed, last-same, last_le}
use Rattle.mq_core.specs.Events.{MayClear, HasRoom, us_of, draw, clear, unchanged_by, without}
use Rattle.mq_core.specs.Machine.{Draw, IsAllowed}
use Rattle.mq_core.specs.View.{IsHeld, state_with}
use Rattle.mq_core.proofs.KnownJournalGrowth.{front_drawn}

pub reverse_push : {A : Type 0} (xs : List A) (x : A) → reverse (xs ++ x ∷ []) ≡ x ∷ reverse xs
reverse_push xs x = reverse-append xs (x ∷ [])

-- ---- marks

module _ (l : Ledger) (ports : List PortState) (root : PortState) (marks writing acknowledged : List ℕ) (held : IsHeld l.front (state_with l ports root marks writing acknowledged)) where
  abbrev s : State
  s = state_with l ports root marks writing acknowledged

  pub may_clear : (q low head : ℕ) → q < l.geometry.queues → head ≡ (port_at ports q).head → IsClear l q head low → MayClear s q low
  may_clear q low head own is clear =
      record {
        queue = own;
        each = λ t ts at mine undone. clear t ts at mine (
            let past : (port_at ports t.queue).head < end_of (from_at l.starts t.queue) (of_queue t.queue ts) + (writes t + descriptor_blocks t) = leb-false _ _ undone in
            rw is (subst (λ n. (port_at ports n).head < end_of (from_at l.starts n) (of_queue n ts) + (writes t + descriptor_blocks t)) mine past)
            );
      }

  pub is_clear : (q low head : ℕ) → head ≡ (port_at ports q).head → MayClear s q low → IsClear l q head low
  is_clear q low head is may t ts at mine past =
      let past' : (port_at ports q).head < end_of (from_at l.starts q) (of_queue q ts) + (writes t + descriptor_blocks t) = omega arith in
      may.each t ts at mine (lt-leb _ _ (subst (λ n. (port_at ports n).head < end_of (from_at l.starts n) (of_queue n ts) + (writes t + descriptor_blocks t)) (sym mine) past'))

  -- ---- draws

  pub known_is : IsKnown l root.base (known_of plain s)
  known_is = record { geometry = refl; start = refl; base = refl; history = refl; front_is = sym held.front_is; word_is = refl }

  pub has_place : (t : Tx) → MayDraw (known_of plain s) t → HasRoom l.geometry (from_at l.starts t.queue) root.base (us_of s t.queue) t (port_at ports t.queue) → HasPlace l t
  has_place t may room = record { form = may.form; number = may.number; limit = may.limit; counts = room.limit; places = room.places }

  -- a draw leaves the front
  pub drawn_front : (t : Tx) → IsAllowed plain (Draw t) s → front_of (draw t s) ≡ front_of s
  drawn_front t may =
      let f = held.facts in
      let o = (f.sides t.queue may.0.form.queue).order in
      front_drawn (known_of plain s) t f.log may.0.number (lt-leb _ _ (let rung = may.1.rung in omega (arith, o.stored, o.rung)))

-- the blocks that a transaction leaves are those that it isn't the last change of
abbrev pub is_new : ℕ → ℕ → List Tx → ℕ → ℕ → Bool
is_new homes base h number x = nat_lt x homes && eqb (last base h x) number

pub is_new-changes : (homes base : ℕ) (t : Tx) (h : List Tx) (x : ℕ) → AreNumbered base h → t.number ≡ base + length h + 1 → x < homes → is_new homes base (t ∷ h) t.number x ≡ changes t x
is_new-changes homes base t h x n number inside = ap (λ b. b && eqb (last base (t ∷ h) x) t.number) (lt-ltb _ _ inside) ∙ elim (cases_Bool (changes t x)) [
  | inl c ↦ eq-eqb (last base (t ∷ h) x) t.number (last-changed base t h x c) ∙ sym c
  | inr c ↦ ne_eqb (last base (t ∷ h) x) t.number (λ e. let same = last-same base t h x c in omega (arith, last_le base h x n)) ∙ sym c
]

-- ---- blocks under way

filter-reverse : (p : ℕ → Bool) (xs : List ℕ) → filter p (reverse xs) ≡ reverse (filter p xs)
filter-reverse p [] = refl
filter-reverse p (x ∷ xs) =
    let back : filter p (reverse (x ∷ xs)) ≡ reverse (filter p xs) ++ filter p (x ∷ []) = ap (filter p) (reverse-append (x ∷ []) xs) ∙ filter-append p (reverse xs) (x ∷ []) ∙ ap (λ ys. ys ++ filter p (x ∷ [])) (filter-reverse p xs) in
    back ∙ elim (cases_Bool (p x)) [
      | inl c ↦ rw c (sym (reverse-append (x ∷ []) (filter p xs)))
      | inr c ↦ rw c (append-nil (reverse (filter p xs)))
    ]

filter_along : (p q : ℕ → Bool) (xs : List ℕ) → ((x : ℕ) → is_among x xs ≡ true → p x ≡ q x) → filter p xs ≡ filter q xs
filter_along p q [] each = refl
filter_along p q (x ∷ xs) each =
    let here : p x ≡ q x = each x (rw (eq-eqb x x refl) refl) in
    let rest = filter_along p q xs (λ y h. each y (behind y h)) in
    elim (cases_Bool (q x)) [
      | inl c ↦ rw (here ∙ c, c, rest) refl
      | inr c ↦ rw (here ∙ c, c, rest) refl
    ]
  where
    behind : (y : ℕ) → is_among y xs ≡ true → is_among y (x ∷ xs) ≡ true
    behind y h = elim (cases_Bool (eqb x y)) [
      | inl e ↦ rw e refl
      | inr e ↦ rw e h
    ]

among-append : (x : ℕ) (xs ys : List ℕ) → is_among x (xs ++ ys) ≡ is_among x xs || is_among x ys
among-append x [] ys = refl
among-append x (z ∷ xs) ys = elim (cases_Bool (eqb z x)) [
  | inl c ↦ rw c refl
  | inr c ↦ rw c (among-append x xs ys)
]

pub among-reverse : (x : ℕ) (xs : List ℕ) → is_among x (reverse xs) ≡ is_among x xs
among-reverse x [] = refl
among-reverse x (z ∷ xs) = ap (is_among x) (reverse-append (z ∷ []) xs) ∙ among-append x (reverse xs) (z ∷ []) ∙ ap (λ b. b || is_among x (z ∷ [])) (among-reverse x xs) ∙ elim (cases_Bool (eqb z x)) [
  | inl c ↦ rw c (or_true (is_among x xs))
  | inr c ↦ rw c (or_false (is_among x xs))
]
  where
    or_true : (b : Bool) → b || true ≡ true
    or_true true = refl
    or_true false = refl

    or_false : (b : Bool) → b || false ≡ b
    or_false true = refl
    or_false false = refl

unchanged-filter : (t : Tx) (xs : List ℕ) → filter (λ x. not (changes t x)) xs ≡ unchanged_by t xs
unchanged-filter t [] = refl
unchanged-filter t (x ∷ xs) = elim (cases_Bool (changes t x)) [
  | inl c ↦ rw c (unchanged-filter t xs)
  | inr c ↦ rw c (ap (λ ys. x ∷ ys) (unchanged-filter t xs))
]

without-filter : (x : ℕ) (xs : List ℕ) → filter (λ y. not (eqb y x)) xs ≡ without x xs
without-filter x [] = refl
without-filter x (z ∷ xs) = elim (cases_Bool (eqb z x)) [
  | inl c ↦ rw c (without-filter x xs)
  | inr c ↦ rw c (ap (λ ys. z ∷ ys) (without-filter x xs))
]

-- what a draw leaves of them, newest last
pub left_by : (homes base : ℕ) (t : Tx) (h : List Tx) (xs : List ℕ) → AreNumbered base h → t.number ≡ base + length h + 1 → ((x : ℕ) → is_among x (reverse xs) ≡ true → x < homes)
    → reverse (filter (λ x. not (is_new homes base (t ∷ h) t.number x)) xs) ≡ unchanged_by t (reverse xs)
left_by homes base t h xs n number inside =
    ap reverse (filter_along _ (λ x. not (changes t x)) xs (λ x among. ap not (is_new-changes homes base t h x n number (inside x (among-reverse x xs ∙ among)))))
    ∙ sym (filter-reverse (λ x. not (changes t x)) xs) ∙ unchanged-filter t (reverse xs)

pub left_without : (x : ℕ) (xs : List ℕ) → reverse (filter (λ y. not (eqb y x)) xs) ≡ without x (reverse xs)
left_without x xs = sym (filter-reverse (λ y. not (eqb y x)) xs) ∙ without-filter x (reverse xs)
