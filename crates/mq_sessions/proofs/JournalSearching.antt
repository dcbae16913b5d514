-- A search in a rising list of blocks.
use Rattle.std.proofs.Common.{◌≡◌, ℕ, ◌<◌, ◌≤◌, true, List, length, get_or, Result, Ok, Err, is_ok, sym, ap, subst, inl, inr, arith}
use Rattle.std.specs.List.Sorted.{IsSearchInRange, IsBinarySearchResult, IsNonDecreasingBy}
use Rattle.std.specs.Ordering.{nat_cmp, ordering_index}
use Rattle.std.proofs.lemmas.Bool.{cases_lt, false_from_ne_true}
use Rattle.std.proofs.lemmas.Bool.Decides.{nat_tests}
use Rattle.std.proofs.lemmas.Cmp.{ranked}
use Rattle.std.proofs.lemmas.List.Sorted.{IsNonDecreasingBy-from_default}
use Rattle.mq_blocks.specs.Descriptor.{AreRising}
use Rattle.mq_blocks.specs.Journal.{is_among}
use Rattle.mq_blocks.proofs.DescriptorRising.{rising-order}
use Rattle.mq_blocks.proofs.JournalAmong.{among-at, at-among}

up_at : (low high : ℕ) (xs : List ℕ) (i j : ℕ) → AreRising low high xs → i ≤ j → j < length xs → get_or xs i 0 ≤ get_or xs j 0
up_at low high xs i j r le l = elim (cases_lt i j) [
  | inl under ↦ (let up = rising-order low high xs i j r under l in omega arith)
  | inr over ↦ (let same : i ≡ j = omega arith in let e = ap (λ (k : ℕ). get_or xs k 0) same in omega arith)
]

module _ (low high : ℕ) (xs : List ℕ) (x : ℕ) (rising : AreRising low high xs) where
  comparisons_rise : IsNonDecreasingBy (λ y. ordering_index (nat_cmp y x)) xs
  comparisons_rise = IsNonDecreasingBy-from_default (λ y. ordering_index (nat_cmp y x)) xs 0 (λ i j le in_range.
      let up : get_or xs i 0 ≤ get_or xs j 0 = up_at low high xs i j rising le in_range in
      grind (arith, nat_tests))

  none_found : (i : ℕ) → ((k : ℕ) → k < i → k < length xs → get_or xs k 0 < x) → ((k : ℕ) → i ≤ k → k < length xs → x < get_or xs k 0) → is_among x xs ≡ true → ⊥
  none_found i before after among =
      let r = among-at xs x among in
      let is = r.2 in
      elim (cases_lt r.0 i) [
        | inl under ↦ (let k = before r.0 under r.1 in absurd (omega arith))
        | inr over ↦ (let k = after r.0 over r.1 in absurd (omega arith))
      ]

  -- what a search answers, as a test
  pub searched : (r : Result ℕ ℕ) → IsSearchInRange r (length xs) → IsBinarySearchResult (λ y. nat_cmp y x) xs r → is_ok r ≡ is_among x xs
  searched (Ok i) in_range equal = sym (subst (λ z. is_among z xs ≡ true) (ranked _ x _ (sym (equal 0))) (at-among xs i in_range))
  searched (Err i) in_range parted = sym (false_from_ne_true _ (λ among. none_found i (λ k lt l. ranked _ x _ (sym ((parted comparisons_rise).0 k 0 (omega arith) lt))) (λ k le l. ranked _ x _ (sym ((parted comparisons_rise).1 k 0 le l))) among))
