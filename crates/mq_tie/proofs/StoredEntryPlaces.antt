-- Where the entry of each number is stored, and the list that this makes.
use Rattle.std.proofs.Common.{◌≡◌, ◌≢◌, ℕ, zero, suc, ◌+◌, ◌-◌, ◌<◌, ◌≤◌, List, [], ◌∷◌, length, set, Option, Some, None, refl, sym, ap, subst, ◌∙◌, inl, inr, arith}
use Rattle.std.specs.Prelude.{slice_get}
use Rattle.std.proofs.lemmas.Bool.{cases_lt}
use Rattle.std.proofs.lemmas.Option.{same_Some}
use mathlib.Core.Logic.{dite}
use native.Mathlib.Decide.{ℕ_discrete}
use Rattle.mq_queue_side.specs.declared.drawn.Drawn.{Drawn}
use Rattle.mq_tie.specs.declared.ended.EntryPlace.{EntryPlace}
use Rattle.mq_tie.specs.Legal.{numbered}
use Rattle.mq_tie.specs.Stored.{IsNoted, drawn_at, entries_at, with_found}

-- ---- a write to one place of a list

pub get-set-same : {A : Type 0} (xs : List A) (i : ℕ) (a : A) → i < length xs → slice_get (set xs i a) i ≡ Some a
get-set-same [] i a l = absurd (omega arith)
get-set-same (x ∷ xs) zero a l = refl
get-set-same (x ∷ xs) (suc i) a l = get-set-same xs i a (omega arith)

pub get-set-other : {A : Type 0} (xs : List A) (i j : ℕ) (a : A) → j ≢ i → slice_get (set xs i a) j ≡ slice_get xs j
get-set-other [] i j a n = refl
get-set-other (x ∷ xs) zero zero a n = absurd (n refl)
get-set-other (x ∷ xs) zero (suc j) a n = refl
get-set-other (x ∷ xs) (suc i) zero a n = refl
get-set-other (x ∷ xs) (suc i) (suc j) a n = get-set-other xs i j a (λ e. n (ap suc e))

-- ---- notes

module _ {E : Type 0} (lists : List (List (Drawn E))) (base : ℕ) where
  pub noted-here : (order : List EntryPlace) (s : EntryPlace) (d : Drawn E) → drawn_at lists s ≡ Some d → base < d.number → d.number ≤ base + length order → IsNoted lists base (set order (d.number - suc base) s) d.number
  noted-here order s d found above low = record {
    above = above;
    entry_place = s;
    at = get-set-same order (d.number - suc base) s (omega arith);
    drawn = d;
    found = found;
    number = refl;
  }

  pub noted-kept : (order : List EntryPlace) (s : EntryPlace) (d : Drawn E) → drawn_at lists s ≡ Some d → base < d.number → d.number ≤ base + length order → (n : ℕ) → IsNoted lists base order n → IsNoted lists base (set order (d.number - suc base) s) n
  noted-kept order s d found above low n is = dite (ℕ_discrete n d.number)
      (λ e. subst (λ m. IsNoted lists base (set order (d.number - suc base) s) m) (sym e) (noted-here order s d found above low))
      (λ ne.
      let past = is.above in
      record {
        above = is.above;
        entry_place = is.entry_place;
        at = get-set-other order (d.number - suc base) (n - suc base) s (λ e. ne (omega arith)) ∙ is.at;
        drawn = is.drawn;
        found = is.found;
        number = is.number;
      })

  -- one more entry's place is noted
  module _ (order : List EntryPlace) (queue place : ℕ) (d : Drawn E) (found : drawn_at lists (record { queue = queue; place = place }) ≡ Some d) (above : base < d.number) (low : d.number ≤ base + length order) (i : ℕ) (at : i ≡ d.number - suc base) where
    abbrev later : List EntryPlace
    later = set order i (record { queue = queue; place = place })

    same_list : set order (d.number - suc base) (record { queue = queue; place = place }) ≡ later
    same_list = ap (λ (j : ℕ). set order j (record { queue = queue; place = place })) (sym at)

    pub note-kept : (n : ℕ) → IsNoted lists base order n → IsNoted lists base later n
    note-kept n is = subst (λ o. IsNoted lists base o n) same_list (noted-kept order _ d found above low n is)

    pub note-next : ((p : ℕ) (x : Drawn E) → p < place → drawn_at lists (record { queue = queue; place = p }) ≡ Some x → IsNoted lists base order x.number) → (p : ℕ) (x : Drawn E) → p < place + 1 → drawn_at lists (record { queue = queue; place = p }) ≡ Some x → IsNoted lists base later x.number
    note-next earlier p x l e = elim (cases_lt p place) [
      | inl before ↦ note-kept x.number (earlier p x before e)
      | inr not ↦
          let same : p ≡ place = omega arith in
          let is : x ≡ d = same_Some _ _ (sym e ∙ (ap (λ (q : ℕ). drawn_at lists (record { queue = queue; place = q })) same ∙ found)) in
          subst (λ (y : Drawn E). IsNoted lists base later y.number) (sym is) (subst (λ o. IsNoted lists base o d.number) same_list (noted-here order _ d found above low))
    ]

-- ---- the list

module _ {E : Type 0} (lists : List (List (Drawn E))) where
  -- the i-th place has the i-th entry, with its number
  pub record Matches (order : List EntryPlace) (es : List E) (n i : ℕ) : Type 0 where
    pub entry_place : EntryPlace
    pub at : slice_get order i ≡ Some entry_place
    pub drawn : Drawn E
    pub found : drawn_at lists entry_place ≡ Some drawn
    pub number : drawn.number ≡ n + i
    pub entry : slice_get es i ≡ Some drawn.entry

  matches-rest : (s : EntryPlace) (order : List EntryPlace) (e : E) (es : List E) (n i : ℕ) → Matches (s ∷ order) (e ∷ es) n (suc i) → Matches order es (suc n) i
  matches-rest s order e es n i m = record {
    entry_place = m.entry_place;
    at = m.at;
    drawn = m.drawn;
    found = m.found;
    number = let is = m.number in omega arith;
    entry = m.entry;
  }

  pub entries-numbered : (order : List EntryPlace) (es : List E) (n : ℕ) → length order ≡ length es → ((i : ℕ) → i < length es → Matches order es n i) → entries_at lists order ≡ numbered n es
  entries-numbered [] [] n many each = refl
  entries-numbered [] (e ∷ es) n many each = absurd (omega arith)
  entries-numbered (s ∷ order) [] n many each = absurd (omega arith)
  entries-numbered (s ∷ order) (e ∷ es) n many each =
      let m = each 0 (omega arith) in
      let here : drawn_at lists s ≡ Some m.drawn = let at : s ≡ m.entry_place = (let a = m.at in cc) in ap (drawn_at lists) at ∙ m.found in
      let is : m.drawn.number ≡ n = let k = m.number in omega arith in
      let same : m.drawn.entry ≡ e = (let a = m.entry in cc) in
      let rest = entries-numbered order es (suc n) (omega arith) (λ i l. matches-rest s order e es n i (each (suc i) (omega arith))) in
      ap (λ o. with_found o (entries_at lists order)) here ∙ ((λ i. (is i, same i) ∷ entries_at lists order) ∙ ap (λ hs. (n, e) ∷ hs) rest)

  -- places of entries that are all found make a list of as many entries
  pub found-length : (order : List EntryPlace) (hs : List (ℕ × E)) → entries_at lists order ≡ hs → length hs ≡ length order → length (entries_at lists order) ≡ length order
  found-length order hs is many = ap length is ∙ many

  -- no more entries are found than there are places
  few-found : (order : List EntryPlace) → length (entries_at lists order) ≤ length order
  few-found [] = omega arith
  few-found (s ∷ order) = few (drawn_at lists s) (entries_at lists order) (length order) (few-found order) where
    few : (o : Option (Drawn E)) (hs : List (ℕ × E)) (n : ℕ) → length hs ≤ n → length (with_found o hs) ≤ suc n
    few None hs n l = omega arith
    few (Some d) hs n l = omega arith

  -- where all are, each is found at its place
  pub record Reads (order : List EntryPlace) (i : ℕ) : Type 0 where
    pub entry_place : EntryPlace
    pub at : slice_get order i ≡ Some entry_place
    pub drawn : Drawn E
    pub found : drawn_at lists entry_place ≡ Some drawn
    pub is : slice_get (entries_at lists order) i ≡ Some (drawn.number, drawn.entry)

  reads-first : (s : EntryPlace) (order : List EntryPlace) (o : Option (Drawn E)) → drawn_at lists s ≡ o → length (with_found o (entries_at lists order)) ≡ suc (length order) → (d : Drawn E) × (o ≡ Some d)
  reads-first s order None at all = let few = few-found order in absurd (omega arith)
  reads-first s order (Some d) at all = (d, refl)

  pub reads-all : (order : List EntryPlace) → length (entries_at lists order) ≡ length order → (i : ℕ) → i < length order → Reads order i
  reads-all [] all i l = absurd (omega arith)
  reads-all (s ∷ order) all i l =
      let first = reads-first s order (drawn_at lists s) refl all in
      let here : entries_at lists (s ∷ order) ≡ (first.0.number, first.0.entry) ∷ entries_at lists order = ap (λ o. with_found o (entries_at lists order)) first.1 in
      let rest : length (entries_at lists order) ≡ length order = let m = ap length here in omega arith in
      reads-at s order first.0 first.1 here (reads-all order rest) i l
    where
      reads-at : (s : EntryPlace) (order : List EntryPlace) (d : Drawn E) → drawn_at lists s ≡ Some d → entries_at lists (s ∷ order) ≡ (d.number, d.entry) ∷ entries_at lists order → ((i : ℕ) → i < length order → Reads order i) → (i : ℕ) → i < length (s ∷ order) → Reads (s ∷ order) i
      reads-at s order d found here rest zero l = record { entry_place = s; at = refl; drawn = d; found = found; is = ap (λ hs. slice_get hs 0) here }
      reads-at s order d found here rest (suc i) l =
          let m = rest i (omega arith) in
          record { entry_place = m.entry_place; at = m.at; drawn = m.drawn; found = m.found; is = ap (λ hs. slice_get hs (suc i)) here ∙ m.is }

-- ---- the place of a number

-- a number that is one of the `long` that follow the base has one of `wide` places
pub record HasPlace (base number wide long : ℕ) : Type 0 where
  pub above : base ≤ number
  pub next : 1 ≤ number - base
  pub short : number - base - 1 < wide
  pub low : number ≤ base + long
  pub at : number - base - 1 ≡ number - suc base

pub has-place : (base number wide was long first : ℕ) → base < number → number ≤ base + was → was ≡ first → long ≡ first → wide ≡ long → HasPlace base number wide long
has-place base number wide was long first above low e f h = record {
  above = omega arith;
  next = omega arith;
  short = omega arith;
  low = omega arith;
  at = omega arith;
}
