-- What the sides of all queues store is the history: each entry is stored in one place, and there are as
-- many as numbers.
use Rattle.std.proofs.Common.{◌≡◌, ◌≢◌, ◌⊎◌, ℕ, zero, suc, ◌+◌, ◌-◌, ◌<◌, ◌≤◌, eqb, true, List, [], ◌∷◌, ◌++◌, length, map, get_or, Some, refl, sym, ap, subst, ◌∙◌, inl, inr, arith}
use Rattle.std.specs.Prelude.{reverse, slice_get}
use Rattle.std.specs.List.{sum_by}
use Rattle.std.proofs.lemmas.Bool.{cases_Bool, cases_lt, eq-eqb, eqb-true}
use Rattle.std.proofs.lemmas.List.{get_or_past, length-reverse, reverse-append, reverse-reverse}
use Rattle.std.proofs.lemmas.List.Sums.{sum_by-cons}
use Rattle.std.proofs.lemmas.Option.{get_or_from_slice_get, same_Some, slice_get_read, slice_get_within}
use lib.ListN.{length-map}
use mathlib.Core.Logic.{dite}
use native.Mathlib.Decide.{ℕ_discrete}
use Rattle.mq_drive.specs.declared.port.Port.{Ghosts}
use Rattle.mq_journal.specs.Values.{entries_in}
use Rattle.mq_desk_laws.specs.Groups.{GroupView}
use Rattle.mq_desk_laws.specs.Rule
use Rattle.mq_desk_laws.specs.Values.{Values}
use Rattle.mq_desk_laws.proofs.Opening.{at_map}
use Rattle.mq_queue_side.specs.declared.drawn.Drawn.{Drawn}
use Rattle.mq_queue_side.specs.declared.side.QueueSide.{QueueSide}
use Rattle.mq_turns.specs.Meaning.{HasNumberAt}
use Rattle.mq_turns.proofs.Meaning.{at_bounds}
use Rattle.mq_tie.specs.declared.ended.EntryPlace.{EntryPlace}
use Rattle.mq_tie.specs.Legal.{numbered}
use Rattle.mq_tie.specs.Stored.{AreWithin, HasStored, IsNoted, drawn_at, entries_at, stored_by}
use Rattle.mq_tie.proofs.EndedParts.{there}
use Rattle.mq_tie.proofs.StoredEntryPlaces.{Reads, entries-numbered, reads-all}

-- ---- members of a list

abbrev Among : {A : Type 0} → A → List A → Type 0
Among x [] = ⊥
Among x (y ∷ ys) = (y ≡ x) ⊎ Among x ys

among-get : {A : Type 0} (xs : List A) (i : ℕ) (x : A) → slice_get xs i ≡ Some x → Among x xs
among-get [] i x e = absurd (cc)
among-get (y ∷ ys) zero x e = inl (same_Some _ _ e)
among-get (y ∷ ys) (suc i) x e = inr (among-get ys i x e)

get-among : {A : Type 0} (xs : List A) (x : A) → Among x xs → (i : ℕ) × (slice_get xs i ≡ Some x)
get-among [] x m = absurd m
get-among (y ∷ ys) x (inl e) = (0, ap Some e)
get-among (y ∷ ys) x (inr m) = let r = get-among ys x m in (suc r.0, r.1)

among-left : {A : Type 0} (xs ys : List A) (x : A) → Among x xs → Among x (xs ++ ys)
among-left [] ys x m = absurd m
among-left (z ∷ xs) ys x (inl e) = inl e
among-left (z ∷ xs) ys x (inr m) = inr (among-left xs ys x m)

among-right : {A : Type 0} (xs ys : List A) (x : A) → Among x ys → Among x (xs ++ ys)
among-right [] ys x m = m
among-right (z ∷ xs) ys x m = inr (among-right xs ys x m)

among-reverse : {A : Type 0} (xs : List A) (x : A) → Among x xs → Among x (reverse xs)
among-reverse [] x m = absurd m
among-reverse (y ∷ ys) x (inl e) = subst (Among x) (sym (reverse-append (y ∷ []) ys)) (among-right (reverse ys) (y ∷ []) x (inl e))
among-reverse (y ∷ ys) x (inr m) = subst (Among x) (sym (reverse-append (y ∷ []) ys)) (among-left (reverse ys) (y ∷ []) x (among-reverse ys x m))

among-back : {A : Type 0} (xs : List A) (x : A) → Among x (reverse xs) → Among x xs
among-back xs x m = subst (Among x) (reverse-reverse xs) (among-reverse (reverse xs) x m)

get-map : {A B : Type 0} (f : A → B) (xs : List A) (i : ℕ) (x : A) → slice_get xs i ≡ Some x → slice_get (map f xs) i ≡ Some (f x)
get-map f [] i x e = absurd (cc)
get-map f (y ∷ ys) zero x e = ap (λ z. Some (f z)) (same_Some _ _ e)
get-map f (y ∷ ys) (suc i) x e = get-map f ys i x e

map-get : {A B : Type 0} (f : A → B) (xs : List A) (i : ℕ) (b : B) → slice_get (map f xs) i ≡ Some b → (x : A) × (slice_get xs i ≡ Some x) × (f x ≡ b)
map-get f [] i b e = absurd (cc)
map-get f (y ∷ ys) zero b e = (y, refl, same_Some _ _ e)
map-get f (y ∷ ys) (suc i) b e = map-get f ys i b e

-- ---- sums over queues

-- of the numbers of n queues, from one queue on
abbrev sum_from : (ℕ → ℕ) → ℕ → ℕ → ℕ
sum_from f q zero = 0
sum_from f q (suc n) = f q + sum_from f (suc q) n

sum-same : (f g : ℕ → ℕ) (q n : ℕ) → ((j : ℕ) → q ≤ j → j < q + n → f j ≡ g j) → sum_from f q n ≡ sum_from g q n
sum-same f g q zero each = refl
sum-same f g q (suc n) each =
    let here = each q (omega arith) (omega arith) in
    let rest = sum-same f g (suc q) n (λ j lo hi. each j (omega arith) (omega arith)) in
    omega arith

sum-more : (f g : ℕ → ℕ) (k q n : ℕ) → q ≤ k → k < q + n → f k ≡ suc (g k) → ((j : ℕ) → j ≢ k → f j ≡ g j) → sum_from f q n ≡ suc (sum_from g q n)
sum-more f g k q zero lo hi one each = absurd (omega arith)
sum-more f g k q (suc n) lo hi one each = dite (ℕ_discrete q k)
    (λ e.
    let here : f q ≡ suc (g q) = subst (λ (j : ℕ). f j ≡ suc (g j)) (sym e) one in
    let rest = sum-same f g (suc q) n (λ j low high. each j (λ same. omega arith)) in
    omega arith)
    (λ ne.
    let here = each q ne in
    let rest = sum-more f g k (suc q) n (omega arith) (omega arith) one each in
    omega arith)

sum-none : (q n : ℕ) → sum_from (λ j. 0) q n ≡ 0
sum-none q zero = refl
sum-none q (suc n) = let rest = sum-none (suc q) n in omega arith

sum-of : {A : Type 0} (h : A → ℕ) (f : ℕ → ℕ) (xs : List A) (q : ℕ) → ((i : ℕ) (x : A) → slice_get xs i ≡ Some x → h x ≡ f (q + i)) → sum_by h xs ≡ sum_from f q (length xs)
sum-of h f [] q each = refl
sum-of h f (x ∷ xs) q each =
    let here : h x ≡ f q = let at : q + 0 ≡ q = omega arith in each 0 x refl ∙ ap f at in
    let rest = sum-of h f xs (suc q) (λ i y e. let at : q + suc i ≡ suc q + i = omega arith in each (suc i) y e ∙ ap f at) in
    let cons = sum_by-cons h x xs in
    omega arith

-- ---- a number's place in the history

get-left : {A : Type 0} (xs ys : List A) (i : ℕ) (x : A) → slice_get xs i ≡ Some x → slice_get (xs ++ ys) i ≡ Some x
get-left [] ys i x e = absurd (cc)
get-left (z ∷ xs) ys zero x e = e
get-left (z ∷ xs) ys (suc i) x e = get-left xs ys i x e

get-last : {A : Type 0} (xs : List A) (x : A) (i : ℕ) → i ≡ length xs → slice_get (xs ++ x ∷ []) i ≡ Some x
get-last [] x zero e = refl
get-last [] x (suc i) e = absurd (omega arith)
get-last (z ∷ xs) x zero e = absurd (omega arith)
get-last (z ∷ xs) x (suc i) e = get-last xs x i (omega arith)

-- it stands there, the oldest first
pub at-place : {E : Type 0} (base : ℕ) (es : List E) (n : ℕ) (e : E) → HasNumberAt base es n e → slice_get (reverse es) (n - suc base) ≡ Some e
at-place base [] n e at = absurd at
at-place base (x ∷ xs) n e (inl same) =
    let long = length-reverse xs in
    let is = same.0 in
    ap (λ ys. slice_get ys (n - suc base)) (reverse-append (x ∷ []) xs) ∙ (get-last (reverse xs) x (n - suc base) (omega arith) ∙ ap Some same.1)
at-place base (x ∷ xs) n e (inr deeper) = ap (λ ys. slice_get ys (n - suc base)) (reverse-append (x ∷ []) xs) ∙ get-left (reverse xs) (x ∷ []) (n - suc base) e (at-place base xs n e deeper)

-- each number up to the newest has an entry
pub at-each : {E : Type 0} (base : ℕ) (es : List E) (n : ℕ) → base < n → n ≤ base + length es → (e : E) × HasNumberAt base es n e
at-each base [] n lo hi = absurd (omega arith)
at-each base (x ∷ xs) n lo hi = elim (cases_lt (base + length xs) n) [
  | inl new ↦ (x, inl (omega arith, refl))
  | inr old ↦ let r = at-each base xs n lo old in (r.0, inr r.1)
]

-- ---- what is stored

module _ {P E : Type 0} {G : Ghosts P} (sides : List (QueueSide P E G)) where
  -- what is found is in the list of a side that there is
  pub record InSide (s : EntryPlace) (d : Drawn E) : Type 0 where
    pub side : QueueSide P E G
    pub inside : s.queue < length sides
    pub at : slice_get sides s.queue ≡ Some side
    pub place : slice_get side.stored.items s.place ≡ Some d

  pub in-side : (s : EntryPlace) (d : Drawn E) → drawn_at (stored_by sides) s ≡ Some d → InSide s d
  in-side s d e = elim (cases_lt s.queue (length sides)) [
    | inl inside ↦
        let w = there sides s.queue inside in
        let list : get_or (stored_by sides) s.queue [] ≡ w.0.stored.items = (at_map (λ s. s.stored.items) sides s.queue w.0 [] w.1).0 in
        record { side = w.0; inside = inside; at = w.1; place = ap (λ ds. slice_get ds s.place) (sym list) ∙ e }
    | inr past ↦
        let long = length-map sides (λ s. s.stored.items) in
        let none : get_or (stored_by sides) s.queue [] ≡ [] = get_or_past (stored_by sides) s.queue [] (omega arith) in
        let nowhere : slice_get {X = Drawn E} [] s.place ≡ Some d = ap (λ ds. slice_get ds s.place) (sym none) ∙ e in
        absurd (cc)
  ]

  -- what is read there is what is stored there
  pub at-entry_place : (q : ℕ) (w : QueueSide P E G) → q < length sides → w ≡ get_or sides q w → (ds : List (Drawn E)) → ds ≡ w.stored.items → (p : ℕ) (d : Drawn E) → p < length ds → d ≡ get_or ds p d → drawn_at (stored_by sides) (record { queue = q; place = p }) ≡ Some d
  at-entry_place q w inside side_is ds list_is p d short is =
      let side : slice_get sides q ≡ Some w = slice_get_read sides (length sides) q w refl inside side_is in
      let list : get_or (stored_by sides) q [] ≡ w.stored.items = (at_map (λ s. s.stored.items) sides q w [] side).0 in
      ap (λ xs. slice_get xs p) (list ∙ sym list_is) ∙ slice_get_read ds (length ds) p d refl short is

  -- and beyond what is stored is nothing
  pub at-end : (q : ℕ) (w : QueueSide P E G) → q < length sides → w ≡ get_or sides q w → (ds : List (Drawn E)) → ds ≡ w.stored.items → (p : ℕ) (d : Drawn E) → drawn_at (stored_by sides) (record { queue = q; place = p }) ≡ Some d → p < length ds
  at-end q w inside side_is ds list_is p d e =
      let side : slice_get sides q ≡ Some w = slice_get_read sides (length sides) q w refl inside side_is in
      let list : get_or (stored_by sides) q [] ≡ w.stored.items = (at_map (λ s. s.stored.items) sides q w [] side).0 in
      slice_get_within ds p d (ap (λ xs. slice_get xs p) (list_is ∙ sym list) ∙ e)

  -- a place of an entry that is read out of an order of which all is found
  module _ (order : List EntryPlace) (at : ℕ) (all : length (entries_at (stored_by sides) order) ≡ length order) (inside : at < length order) (entry_place : EntryPlace) (is : entry_place ≡ get_or order at entry_place) where
    read : Reads (stored_by sides) order at
    read = reads-all (stored_by sides) order all at inside

    same_entry_place : entry_place ≡ read.entry_place
    same_entry_place = is ∙ get_or_from_slice_get order at read.entry_place entry_place read.at

    here : drawn_at (stored_by sides) entry_place ≡ Some read.drawn
    here = ap (drawn_at (stored_by sides)) same_entry_place ∙ read.found

    pub entry_place-inside : entry_place.queue < length sides
    entry_place-inside = (in-side entry_place read.drawn here).inside

    module _ (w : QueueSide P E G) (side_is : w ≡ get_or sides entry_place.queue w) (ds : List (Drawn E)) (list_is : ds ≡ w.stored.items) where
      found : slice_get ds entry_place.place ≡ Some read.drawn
      found =
          let s = in-side entry_place read.drawn here in
          let same : w ≡ s.side = side_is ∙ get_or_from_slice_get sides entry_place.queue s.side w s.at in
          ap (λ xs. slice_get xs entry_place.place) (list_is ∙ ap (λ u. u.stored.items) same) ∙ s.place

      pub entry_place-place : entry_place.place < length ds
      entry_place-place = slice_get_within ds entry_place.place read.drawn found

      pub entry_place-is : (d : Drawn E) → d ≡ get_or ds entry_place.place d → slice_get (entries_at (stored_by sides) order) at ≡ Some (d.number, d.entry)
      entry_place-is d e =
          let same : d ≡ read.drawn = e ∙ get_or_from_slice_get ds entry_place.place read.drawn d found in
          read.is ∙ ap (λ x. Some (x.number, x.entry)) (sym same)

module _ {Q R E : Type 0} (values : Values Q R E) (group : GroupView E) where
  abbrev own : ℕ → ℕ → List E → List (ℕ × E)
  own = Rule.entries_of values group

  own-at : (q base : ℕ) (es : List E) (x : ℕ × E) → Among x (own q base es) → HasNumberAt base es x.0 x.1
  own-at q base [] x m = absurd m
  own-at q base (e ∷ es) x m = elim (cases_Bool (eqb (group.tx e).queue q)) [
    | inl is ↦
        let m' : Among x ((base + length es + 1, e) ∷ own q base es) = rw is at m in
        elim m' [
          | inl same ↦ inl (let n = ap (λ (y : ℕ × E). y.0) same in omega arith, ap (λ (y : ℕ × E). y.1) same)
          | inr deeper ↦ inr (own-at q base es x deeper)
        ]
    | inr is ↦ let m' : Among x (own q base es) = rw is at m in inr (own-at q base es x m')
  ]

  at-own : (base : ℕ) (es : List E) (n : ℕ) (e : E) → HasNumberAt base es n e → Among (n, e) (own (group.tx e).queue base es)
  at-own base [] n e at = absurd at
  at-own base (x ∷ xs) n e (inl same) =
      let is = same.0 in
      let yes : eqb (group.tx x).queue (group.tx e).queue ≡ true = eq-eqb _ _ (ap (λ y. (group.tx y).queue) same.1) in
      let number : base + length xs + 1 ≡ n = omega arith in
      rw yes (inl (λ i. (number i, same.1 i)))
  at-own base (x ∷ xs) n e (inr deeper) = elim (cases_Bool (eqb (group.tx x).queue (group.tx e).queue)) [
    | inl is ↦ rw is (inr (at-own base xs n e deeper))
    | inr is ↦ rw is (at-own base xs n e deeper)
  ]

  -- each entry is one queue's
  own-all : (base : ℕ) (es : List E) (n : ℕ) → ((m : ℕ) (e : E) → HasNumberAt base es m e → (group.tx e).queue < n) → sum_from (λ q. length (own q base es)) 0 n ≡ length es
  own-all base [] n low = sum-none 0 n
  own-all base (x ∷ xs) n low =
      let rest = own-all base xs n (λ m e at. low m e (inr at)) in
      let here : length (own (group.tx x).queue base (x ∷ xs)) ≡ suc (length (own (group.tx x).queue base xs)) = let yes = eq-eqb (group.tx x).queue (group.tx x).queue refl in rw yes refl in
      let others : (j : ℕ) → j ≢ (group.tx x).queue → length (own j base (x ∷ xs)) ≡ length (own j base xs) = λ j ne. elim (cases_Bool (eqb (group.tx x).queue j)) [
        | inl is ↦ absurd (ne (sym (eqb-true _ _ is)))
        | inr is ↦ rw is refl
      ] in
      let more = sum-more (λ q. length (own q base (x ∷ xs))) (λ q. length (own q base xs)) (group.tx x).queue 0 n (omega arith) (let l = low (suc (base + length xs)) x (inl (refl, refl)) in omega arith) here others in
      omega arith

module _ {P R E : Type 0} {G : Ghosts P} (values : Values (QueueSide P E G) R E) (group : GroupView E) (base : ℕ) (log : List E) (sides : List (QueueSide P E G)) where
  -- the sides store the history
  pub record StoreAll : Type 0 where
    pub each : (q : ℕ) (w : QueueSide P E G) → slice_get sides q ≡ Some w → entries_in w.stored.items ≡ Rule.entries_of values group q base log
    pub own : (n : ℕ) (e : E) → HasNumberAt base log n e → (group.tx e).queue < length sides

  module _ (all : StoreAll) where
    abbrev lists : List (List (Drawn E))
    lists = stored_by sides

    abbrev pair : Drawn E → ℕ × E
    pair d = (d.number, d.entry)

    turned : (q : ℕ) (w : QueueSide P E G) → slice_get sides q ≡ Some w → map pair w.stored.items ≡ reverse (Rule.entries_of values group q base log)
    turned q w e = sym (reverse-reverse (map pair w.stored.items)) ∙ ap reverse (all.each q w e)

    list-at : (q : ℕ) (w : QueueSide P E G) → slice_get sides q ≡ Some w → get_or lists q [] ≡ w.stored.items
    list-at q w e = (at_map (λ s. s.stored.items) sides q w [] e).0

    -- what is stored has its number in the history
    pub stored-at : (s : EntryPlace) (d : Drawn E) → drawn_at lists s ≡ Some d → HasNumberAt base log d.number d.entry
    stored-at s d e =
        let w = in-side sides s d e in
        let listed = ap (λ ys. slice_get ys s.place) (sym (turned s.queue w.side w.at)) ∙ get-map pair w.side.stored.items s.place d w.place in
        own-at values group s.queue base log (d.number, d.entry) (among-back _ _ (among-get _ s.place _ listed))

    -- each entry of the history is stored
    pub at-stored : (n : ℕ) (e : E) → HasNumberAt base log n e → HasStored lists n
    at-stored n e at =
        let q = (group.tx e).queue in
        let w = there sides (group.tx e).queue (all.own n e at) in
        let entry_place = get-among _ (n, e) (among-reverse _ (n, e) (at-own values group base log n e at)) in
        let listed = ap (λ ys. slice_get ys entry_place.0) (turned (group.tx e).queue w.0 w.1) ∙ entry_place.1 in
        let d = map-get pair w.0.stored.items entry_place.0 (n, e) listed in
        record {
          entry_place = record { queue = (group.tx e).queue; place = entry_place.0 };
          drawn = d.0;
          found = ap (λ ds. slice_get ds entry_place.0) (list-at (group.tx e).queue w.0 w.1) ∙ d.1;
          number = ap (λ (y : ℕ × E). y.0) d.2;
        }

    pub within : AreWithin lists base (length log)
    within s d e = at_bounds base log d.number d.entry (stored-at s d e)

    pub has-stored : (n : ℕ) → base < n → n ≤ base + length log → HasStored lists n
    has-stored n lo hi = let e = at-each base log n lo hi in at-stored n e.0 e.1

    -- as many are stored as there are numbers
    pub stored-many : sum_by (λ s. length s.stored.items) sides ≡ length log
    stored-many = sum-of (λ s. length s.stored.items) (λ q. length (Rule.entries_of values group q base log)) sides 0 (λ q w e.
        let turn = ap length (all.each q w e) in
        let long = length-reverse (map pair w.stored.items) in
        let same = length-map w.stored.items pair in
        let many : length w.stored.items ≡ length (Rule.entries_of values group q base log) = omega arith in
        let at : q ≡ 0 + q = omega arith in
        many ∙ ap (λ j. length (Rule.entries_of values group j base log)) at) ∙ own-all values group base log (length sides) all.own

    -- where each number is noted, this is the history in number order
    pub noted-history : (order : List EntryPlace) → length order ≡ length log → ((n : ℕ) → base < n → n ≤ base + length log → IsNoted lists base order n) → entries_at lists order ≡ numbered (suc base) (reverse log)
    noted-history order many noted =
        let long = length-reverse log in
        entries-numbered lists order (reverse log) (suc base) (many ∙ sym long) (λ i l.
        let m = noted (suc base + i) (omega arith) (omega arith) in
        let place : suc base + i - suc base ≡ i = omega arith in
        let number = m.number in
        let back : m.drawn.number - suc base ≡ i = omega arith in
        record {
          entry_place = m.entry_place;
          at = ap (slice_get order) (sym place) ∙ m.at;
          drawn = m.drawn;
          found = m.found;
          number = m.number;
          entry = ap (slice_get (reverse log)) (sym back) ∙ at-place base log m.drawn.number m.drawn.entry (stored-at m.entry_place m.drawn m.found);
        })
