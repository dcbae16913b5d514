-- Rising lists of blocks, what is among them, and a search in them.
use Rattle.std.proofs.Common.{◌≡◌, ℕ, zero, suc, ◌+◌, ◌<◌, ◌≤◌, eqb, Bool, true, false, All, List, [], ◌∷◌, ◌++◌, length, drop, map, get_or, Result, Ok, Err, is_ok, sym, refl, ap, subst, ◌∙◌, inl, inr, ◌⊎◌, arith}
use Rattle.std.specs.Bool.{IsTrue}
use Rattle.std.specs.List.Sorted.{IsSearchInRange, IsBinarySearchResult, IsNonDecreasingBy}
use Rattle.std.specs.Ordering.{nat_cmp, ordering_index}
use Rattle.std.proofs.lemmas.Bool.{cases_Bool, cases_lt, cases_eq, false≢true, eqb-true}
use Rattle.std.proofs.lemmas.Bool.Decides.{nat_tests}
use Rattle.std.proofs.lemmas.Cmp.{ranked}
use Rattle.std.proofs.lemmas.List.{length-map, get_or-map, map-append, drop_more, drop_all, get_or_append_left, get_or-append-add, length-append}
use Rattle.std.proofs.lemmas.List.Elements.{All-cons, All-tail, All-head, All-nil}
use Rattle.std.proofs.lemmas.List.Sorted.{IsNonDecreasingBy-from_default}
use Rattle.mq_blocks.proofs.DescriptorRising.{rising-order}
use Rattle.mq_blocks.specs.Descriptor.{AreRising, AreApart}
use Rattle.mq_blocks.specs.Journal.{is_among}
use Rattle.mq_ledger.specs.Form.{IsAscending}
use Rattle.mq_ledger.specs.Records.{Every}
use Rattle.mq_blocks.specs.Machine.{Writes}
use Rattle.mq_ledger.specs.History.{blocks_of}
use Rattle.mq_blocks.proofs.JournalAmong.{among-here, apart-from, apart-not_among, among-at as among-index, among-left as among-append_left, among-right as among-append_right}

pub rising-high : (low high : ℕ) (xs : List ℕ) (k : ℕ) → AreRising low high xs → k < length xs → get_or xs k 0 < high
rising-high low high [] k r l = absurd (omega arith)
rising-high low high (x ∷ xs) zero r l = r.1
rising-high low high (x ∷ xs) (suc k) r l = rising-high (x + 1) high xs k r.2 (omega arith)

pub rising-ascending : (low high : ℕ) (xs : List ℕ) → AreRising low high xs → IsAscending xs
rising-ascending low high xs r i j le l = elim (cases_eq i j) [
  | inl same ↦ (let e : get_or xs i 0 ≡ get_or xs j 0 = ap (λ (k : ℕ). get_or xs k 0) same in omega arith)
  | inr other ↦ (let up = rising-order low high xs i j r (omega arith) l in omega arith)
]

pub among-at : (xs : List ℕ) (k x : ℕ) → k < length xs → get_or xs k 0 ≡ x → is_among x xs ≡ true
among-at [] k x l e = absurd (omega arith)
among-at (y ∷ ys) zero x l e = subst (λ (z : ℕ). is_among z (y ∷ ys) ≡ true) e (among-here y ys)
among-at (y ∷ ys) (suc k) x l e = elim (cases_Bool (eqb y x)) [
  | inl same ↦ rw same refl
  | inr other ↦ rw other (among-at ys k x (omega arith) e)
]

-- ---- a binary search by a key that rises

module _ {X : Type 0} (key : X → ℕ) (d : X) (xs : List X) (x : ℕ) (sorted : IsAscending (map key xs)) where
  keys_rise : (i j : ℕ) → i ≤ j → j < length xs → key (get_or xs i d) ≤ key (get_or xs j d)
  keys_rise i j le l =
      let long : length (map key xs) ≡ length xs = length-map xs key in
      let up = sorted i j le (omega arith) in
      let a : get_or (map key xs) i 0 ≡ key (get_or xs i d) = get_or-map key xs i d 0 (omega arith) in
      let b : get_or (map key xs) j 0 ≡ key (get_or xs j d) = get_or-map key xs j d 0 l in
      omega arith

  comparisons_rise : IsNonDecreasingBy (λ y. ordering_index (nat_cmp (key y) x)) xs
  comparisons_rise = IsNonDecreasingBy-from_default (λ y. ordering_index (nat_cmp (key y) x)) xs d (λ i j le in_range.
      let up : key (get_or xs i d) ≤ key (get_or xs j d) = keys_rise i j le in_range in
      grind (arith, nat_tests))

  none_found : (i : ℕ) → ((k : ℕ) → k < i → k < length xs → key (get_or xs k d) < x) → ((k : ℕ) → i ≤ k → k < length xs → x < key (get_or xs k d)) → is_among x (map key xs) ≡ true → ⊥
  none_found i before after among =
      let r = among-index (map key xs) x among in
      let long : length (map key xs) ≡ length xs = length-map xs key in
      let bound = r.1 in
      let e : get_or (map key xs) r.0 0 ≡ key (get_or xs r.0 d) = get_or-map key xs r.0 d 0 (omega arith) in
      let is = r.2 in
      elim (cases_lt r.0 i) [
        | inl low ↦ (let k = before r.0 low (omega arith) in absurd (omega arith))
        | inr high ↦ (let k = after r.0 high (omega arith) in absurd (omega arith))
      ]

  pub searched-by : (r : Result ℕ ℕ) → IsSearchInRange r (length xs) → IsBinarySearchResult (λ y. nat_cmp (key y) x) xs r → (IsTrue (is_ok r) → is_among x (map key xs) ≡ true) × (is_among x (map key xs) ≡ true → IsTrue (is_ok r))
  searched-by (Ok i) in_range equal = (
    λ t. among-at (map key xs) i x (rw length-map in_range) (get_or-map key xs i d 0 in_range ∙ ranked _ x _ (sym (equal d))),
    λ t. refl,
  )
  searched-by (Err i) in_range parted = (
    λ t. absurd (false≢true t),
    λ among. absurd (none_found i (λ k lt l. ranked _ x _ (sym ((parted comparisons_rise).0 k d (omega arith) lt))) (λ k le l. ranked _ x _ (sym ((parted comparisons_rise).1 k d le l))) among),
  )

-- ---- what holds of every block of a list

pub every-nil : (Has : ℕ → Type 0) → Every Has []
every-nil Has x e = absurd (false≢true e)

pub every-first : (Has : ℕ → Type 0) (y : ℕ) (ys : List ℕ) → Every Has (y ∷ ys) → Has y
every-first Has y ys all = all y (among-here y ys)

pub every-rest : (Has : ℕ → Type 0) (y : ℕ) (ys : List ℕ) → Every Has (y ∷ ys) → Every Has ys
every-rest Has y ys all x e = all x (elim (cases_Bool (eqb y x)) [ inl same ↦ rw same refl | inr other ↦ rw other e ])

pub every-cons : (Has : ℕ → Type 0) (y : ℕ) (ys : List ℕ) → Has y → Every Has ys → Every Has (y ∷ ys)
every-cons Has y ys here rest x e = elim (cases_Bool (eqb y x)) [
  | inl same ↦ subst Has (eqb-true _ _ same) here
  | inr other ↦ rest x (rw other at e)
]

-- a loop over a list: all of it has it exactly where the rest has it
pub record Goes (Whole Rest : Type 0) : Type 0 where
  pub on : Whole → Rest
  pub back : Rest → Whole

pub goes : {A B C : Type 0} → Goes A B → Goes B C → Goes A C
goes f g = record { on = λ a. g.on (f.on a); back = λ c. f.back (g.back c) }

pub goes-along : {X : Type 0} → (F : List X → Type 0) (xs ys : List X) → xs ≡ ys → Goes (F xs) (F ys)
goes-along F xs ys e = record { on = subst F e; back = subst F (sym e) }

pub every-step : (Has : ℕ → Type 0) (xs : List ℕ) (i x : ℕ) → i < length xs → x ≡ get_or xs i 0 → Has x → Goes (Every Has (drop i xs)) (Every Has (drop (i + 1) xs))
every-step Has xs i x l e here =
    let there : Has (get_or xs i 0) = subst Has e here in
    goes (goes-along (Every Has) _ _ (drop_more xs i 0 l)) (record { on = every-rest Has _ _; back = every-cons Has _ _ there })

pub every-stop : (Has : ℕ → Type 0) (xs : List ℕ) (i x : ℕ) → i < length xs → x ≡ get_or xs i 0 → (Has x → ⊥) → Every Has (drop i xs) → ⊥
every-stop Has xs i x l e not all = not (subst Has (sym e) (every-first Has _ _ (subst (Every Has) (drop_more xs i 0 l) all)))

pub every-end : (Has : ℕ → Type 0) (xs : List ℕ) (i : ℕ) → length xs ≤ i → Every Has (drop i xs)
every-end Has xs i l = subst (Every Has) (sym (drop_all i xs l)) (every-nil Has)

pub rising-step : (low high : ℕ) (xs : List ℕ) (i x : ℕ) → i < length xs → x ≡ get_or xs i 0 → low ≤ x → x < high → Goes (AreRising low high (drop i xs)) (AreRising (x + 1) high (drop (i + 1) xs))
rising-step low high xs i x l e a b =
    let P : ℕ → Type 0 = λ y. AreRising (y + 1) high (drop (i + 1) xs) in
    goes (goes-along (AreRising low high) _ _ (drop_more xs i 0 l)) (record { on = λ r. subst P (sym e) r.2; back = λ r. (omega arith, omega arith, subst P e r) })

pub rising-stop : (low high : ℕ) (xs : List ℕ) (i x : ℕ) → i < length xs → x ≡ get_or xs i 0 → (x < low) ⊎ (high ≤ x) → AreRising low high (drop i xs) → ⊥
rising-stop low high xs i x l e w r =
    let k = subst (AreRising low high) (drop_more xs i 0 l) r in
    let a = k.0 in
    let b = k.1 in
    elim w [ inl low ↦ absurd (omega arith) | inr high ↦ absurd (omega arith) ]

pub rising-end : (low high : ℕ) (xs : List ℕ) (i : ℕ) → length xs ≤ i → AreRising low high (drop i xs)
rising-end low high xs i l = subst (AreRising low high) (sym (drop_all i xs l)) tt

pub apart-every : (xs ys : List ℕ) → Goes (AreApart xs ys) (Every (λ x. is_among x ys ≡ false) xs)
apart-every xs ys = record { on = λ a x e. apart-not_among xs ys x a e; back = λ all. apart-from xs ys all }

pub among-append : (xs ys : List ℕ) (x : ℕ) → is_among x xs ≡ false → is_among x ys ≡ false → is_among x (xs ++ ys) ≡ false
among-append [] ys x a b = b
among-append (z ∷ zs) ys x a b = elim (cases_Bool (eqb z x)) [
  | inl same ↦ absurd (false≢true (sym (rw same at a)))
  | inr other ↦ rw other (among-append zs ys x (rw other at a) b)
]

-- the block of an item that a loop reads
pub item-read : {X : Type 0} (of : X → ℕ) (xs : List X) (i : ℕ) (x : X) → i < length xs → x ≡ get_or xs i x → (i < length (map of xs)) × (of x ≡ get_or (map of xs) i 0)
item-read of xs i x l e = (rw length-map l, ap of e ∙ sym (get_or-map of xs i x 0 l))

pub block-read : (ws : Writes) (i : ℕ) (w : ℕ × List ℕ) → i < length ws → w ≡ get_or ws i w → (i < length (blocks_of ws)) × (w.0 ≡ get_or (blocks_of ws) i 0)
block-read ws i w l e = item-read (λ (v : ℕ × List ℕ). v.0) ws i w l e

-- what a search answers, as a test
pub found-is : {X : Type 0} (key : X → ℕ) (xs : List X) (x : ℕ) (r : Result ℕ ℕ) (b : Bool) → IsAscending (map key xs) → IsSearchInRange r (length xs) → IsBinarySearchResult (λ y. nat_cmp (key y) x) xs r → b ≡ is_ok r → (IsTrue b → is_among x (map key xs) ≡ true) × (is_among x (map key xs) ≡ true → IsTrue b)
found-is key [] x (Ok i) b sorted in_range found e = absurd (omega arith)
found-is key [] x (Err i) b sorted in_range found e = (λ t. absurd (false≢true (sym e ∙ t)), λ a. absurd (false≢true a))
found-is key (y ∷ ys) x r b sorted in_range found e = let k = searched-by key y (y ∷ ys) x sorted r in_range found in (λ t. k.0 (sym e ∙ t), λ a. e ∙ k.1 a)

pub true_or_not : (b : Bool) {P : Type 0} → b ≡ false → (P → IsTrue b) → P → ⊥
true_or_not b e f p = absurd (false≢true (sym e ∙ f p))

pub all-step : {X : Type 0} → (P : X → Type 0) (xs : List X) (i : ℕ) (x : X) → i < length xs → x ≡ get_or xs i x → P x → Goes (All P (drop i xs)) (All P (drop (i + 1) xs))
all-step P xs i x l e here =
    let there : P (get_or xs i x) = subst P e here in
    goes (goes-along (All P) _ _ (drop_more xs i x l)) (record { on = All-tail P _ _; back = All-cons P _ _ there })

pub all-stop : {X : Type 0} → (P : X → Type 0) (xs : List X) (i : ℕ) (x : X) → i < length xs → x ≡ get_or xs i x → (P x → ⊥) → All P (drop i xs) → ⊥
all-stop P xs i x l e not all = not (subst P (sym e) (All-head P _ _ (subst (All P) (drop_more xs i x l) all)))

pub all-end : {X : Type 0} → (P : X → Type 0) (xs : List X) (i : ℕ) → length xs ≤ i → All P (drop i xs)
all-end P xs i l = subst (All P) (sym (drop_all i xs l)) (All-nil P)

pub among-none : (vs ws : Writes) (x : ℕ) → is_among x (blocks_of vs) ≡ false → is_among x (blocks_of ws) ≡ false → is_among x (blocks_of (vs ++ ws)) ≡ false
among-none vs ws x a b = subst (λ (xs : List ℕ). is_among x xs ≡ false) (sym (map-append (λ (w : ℕ × List ℕ). w.0) vs ws)) (among-append (blocks_of vs) (blocks_of ws) x a b)

pub among-left : (vs ws : Writes) (x : ℕ) → is_among x (blocks_of vs) ≡ true → is_among x (blocks_of (vs ++ ws)) ≡ true
among-left vs ws x a = subst (λ (xs : List ℕ). is_among x xs ≡ true) (sym (map-append (λ (w : ℕ × List ℕ). w.0) vs ws)) (among-append_left (blocks_of vs) (blocks_of ws) x a)

pub among-right : (vs ws : Writes) (x : ℕ) → is_among x (blocks_of ws) ≡ true → is_among x (blocks_of (vs ++ ws)) ≡ true
among-right vs ws x a = subst (λ (xs : List ℕ). is_among x xs ≡ true) (sym (map-append (λ (w : ℕ × List ℕ). w.0) vs ws)) (among-append_right (blocks_of vs) (blocks_of ws) x a)

pub all-left : {X : Type 0} → (P : X → Type 0) (xs ys : List X) → All P (xs ++ ys) → All P xs
all-left P xs ys all k d l = subst P (get_or_append_left xs ys d k l) (all k d (let n = length-append xs ys in omega arith))

pub all-right : {X : Type 0} → (P : X → Type 0) (xs ys : List X) → All P (xs ++ ys) → All P ys
all-right P xs ys all k d l = subst P (get_or-append-add xs ys k d) (all (length xs + k) d (let n = length-append xs ys in omega arith))
