-- The numbers that are chosen rise, so that a search finds one among them.
use Rattle.std.proofs.Common.{◌≡◌, ◌≢◌, ℕ, zero, suc, ◌-◌, ◌<◌, ◌≤◌, true, false, eqb, inl, inr, List, [], ◌∷◌, length, get_or, reverse, Option, Result, Ok, Err, refl, sym, subst, arith}
use Rattle.std.proofs.lemmas.Bool.{cases_Bool, eq-eqb, ne_eqb}
use Rattle.std.proofs.lemmas.List.{get_or-reverse, length-reverse}
use Rattle.std.proofs.lemmas.List.Sorted.{searched}
use Rattle.std.specs.List.Sorted.{IsBinarySearchResult, IsNonDecreasing}
use Rattle.std.specs.Ordering.{nat_cmp}
use Rattle.std.specs.Prelude.{is_ok}
use Rattle.mq_blocks.specs.Descriptor.{Descriptor}
use Rattle.mq_blocks.specs.Journal.{is_among}
use Rattle.mq_blocks.specs.declared.geometry.Geometry.{Geometry}
use Rattle.mq_loose_order.specs.Dependence.{all_in}
use Rattle.mq_loose_order.specs.Standing.{in_set, numbers_of, standing}
use Rattle.mq_recover.specs.Drives.{DriveState}
use Rattle.mq_recover.specs.Recover.{AreFalling}
use Rattle.mq_recover.specs.declared.copies.CopyPlace.{CopyPlace}
use Rattle.mq_loose_recover.proofs.Choosing.{IsLooselyChoosing}
use Rattle.mq_loose_recover.specs.Choices.{deps_shown}

-- ---- what is chosen rises

-- all are below this
abbrev AreUnder : ℕ → List ℕ → Type 0
AreUnder high ns = (k e : ℕ) → k < length ns → get_or ns k e < high

-- no later one is above an earlier one
abbrev Fall : List ℕ → Type 0
Fall ns = (i j e : ℕ) → i ≤ j → j < length ns → get_or ns j e ≤ get_or ns i e

under-more : (high x : ℕ) (ns : List ℕ) → x < high → AreUnder x ns → AreUnder high (x ∷ ns)
under-more high x ns low under zero e l = low
under-more high x ns low under (suc k) e l = let b = under k e (omega (arith, l)) in omega (arith, low, b)

fall-more : (x : ℕ) (ns : List ℕ) → AreUnder x ns → Fall ns → Fall (x ∷ ns)
fall-more x ns under fall zero zero e le l = omega arith
fall-more x ns under fall zero (suc j) e le l = let b = under j e (omega (arith, l)) in omega (arith, b)
fall-more x ns under fall (suc i) zero e le l = absurd (omega (arith, le))
fall-more x ns under fall (suc i) (suc j) e le l = fall i j e (omega (arith, le)) (omega (arith, l))

module _ (deps : ℕ → List ℕ) (base low : ℕ) where
  stand-under : (high : ℕ) (ds : List Descriptor) → AreFalling low high ds → AreUnder high (numbers_of (standing deps base ds))
  stand-under high [] falls = λ k e l. absurd (omega (arith, l))
  stand-under high (x ∷ xs) falls =
      let under = stand-under x.number xs falls.2 in
      elim (cases_Bool (all_in (in_set base (standing deps base xs)) (deps x.number))) [
        | inl met ↦ rw met (under-more high x.number (numbers_of (standing deps base xs)) falls.1 under)
        | inr not ↦ rw not (λ k e l. let b = falls.1 in let c = under k e l in omega (arith, b, c))
      ]

  stand-fall : (high : ℕ) (ds : List Descriptor) → AreFalling low high ds → Fall (numbers_of (standing deps base ds))
  stand-fall high [] falls = λ i j e le l. absurd (omega (arith, l))
  stand-fall high (x ∷ xs) falls =
      let fall = stand-fall x.number xs falls.2 in
      elim (cases_Bool (all_in (in_set base (standing deps base xs)) (deps x.number))) [
        | inl met ↦ rw met (fall-more x.number (numbers_of (standing deps base xs)) (stand-under x.number xs falls.2) fall)
        | inr not ↦ rw not fall
      ]

rising-reverse : (ns : List ℕ) → Fall ns → IsNonDecreasing (reverse ns)
rising-reverse ns falls i j e le l =
    let long = length-reverse ns in
    rw (get_or-reverse ns i e (omega (arith, le, l, long)), get_or-reverse ns j e (omega (arith, l, long)))
    (falls (length ns - 1 - j) (length ns - 1 - i) e (omega (arith, le, l, long)) (omega (arith, le, l, long)))

pub chosen-rise : (g : Geometry) (d : DriveState) (base : ℕ) (all left : List (List Descriptor)) (copies : List (Option CopyPlace)) (set : List ℕ) → IsLooselyChoosing g d base all left copies set → IsNonDecreasing set
chosen-rise g d base all left copies set t =
    let ns = numbers_of (standing (deps_shown g d t.taken) base t.taken) in
    subst IsNonDecreasing (sym t.set_is) (rising-reverse ns (stand-fall (deps_shown g d t.taken) base base _ t.taken t.merging.falling))

-- ---- a search

among-at : (xs : List ℕ) (i n : ℕ) → i < length xs → get_or xs i 0 ≡ n → is_among n xs ≡ true
among-at [] i n l is = absurd (omega (arith, l))
among-at (x ∷ xs) zero n l is = rw (eq-eqb x n is) refl
among-at (x ∷ xs) (suc i) n l is = elim (cases_Bool (eqb x n)) [
  | inl same ↦ rw same refl
  | inr other ↦ rw other (among-at xs i n (omega (arith, l)) is)
]

among-none : (xs : List ℕ) (n : ℕ) → ((k : ℕ) → k < length xs → get_or xs k 0 ≢ n) → is_among n xs ≡ false
among-none [] n apart = refl
among-none (x ∷ xs) n apart = rw (ne_eqb x n (apart 0 (omega arith))) (among-none xs n (λ k l. apart (suc k) (omega (arith, l))))

pub among-searched : (xs : List ℕ) (n : ℕ) (r : Result ℕ ℕ) → IsNonDecreasing xs → IsBinarySearchResult (λ y. nat_cmp y n) xs r → is_ok r ≡ is_among n xs
among-searched xs n (Ok i) rising ends =
    let found = searched xs n (Ok i) ends (λ i j. rising i j 0) in
    sym (among-at xs i n found.0 found.1)
among-searched xs n (Err i) rising ends =
    let none = searched xs n (Err i) ends (λ i j. rising i j 0) in
    sym (among-none xs n (λ k l is.
    let low : k < i → get_or xs k 0 < n = λ below. none.1 k below in
    let high : i ≤ k → n < get_or xs k 0 = λ above. none.2 k above l in
    grind (arith, low, high, is)))
