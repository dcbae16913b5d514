-- Cells by rising block: what a push keeps, and what a search finds.
use Rattle.std.proofs.Common.{◌∙◌, ◌≡◌, ◌≢◌, ℕ, zero, suc, ◌-◌, ◌<◌, ◌≤◌, [], ◌∷◌, ◌++◌, length, get_or, Some, None, Result, Ok, Err, ap, sym, refl, arith}
use Rattle.std.specs.List.{All, Contains}
use Rattle.std.specs.List.Sorted.{IsBinarySearchResult, IsNonDecreasingBy}
use Rattle.std.specs.Ordering.{nat_cmp, ordering_index}
use Rattle.std.proofs.lemmas.Bool.Decides.{nat_tests}
use Rattle.std.proofs.lemmas.Cmp.{ranked}
use Rattle.std.proofs.lemmas.List.{get_or_default}
use Rattle.std.proofs.lemmas.List.Quantifiers.{all_pairs_push}
use Rattle.mq_pages.specs.declared.page.PageCell.{PageCell}
use Rattle.mq_pages.specs.Held.{Cells, IsRising, IsAboveLast, cell_of}

above-last : (b : ℕ) (cells : Cells) (n : ℕ) (d : ℕ × PageCell) → IsAboveLast b cells → suc n ≡ length cells → (get_or cells n d).0 < b
above-last b [] n d a e = absurd (omega (arith, e))
above-last b (x ∷ []) zero d a e = a
above-last b (x ∷ []) (suc n) d a e = absurd (omega (arith, e))
above-last b (x ∷ y ∷ rest) zero d a e = absurd (omega (arith, e))
above-last b (x ∷ y ∷ rest) (suc n) d a e = above-last b (y ∷ rest) n d a (omega (arith, e))

-- a block above the last one is above all
above-all : (b : ℕ) (cells : Cells) → IsRising cells → IsAboveLast b cells → (k : ℕ) (d : ℕ × PageCell) → k < length cells → (get_or cells k d).0 < b
above-all b cells rising above k d l =
    let n = length cells - 1 in
    let last : (get_or cells n d).0 < b = above-last b cells n d above (omega (arith, l)) in
    grind (arith, last, rising k n d, l, λ (same : k ≡ n). ap (λ (i : ℕ). (get_or cells i d).0) same)

pub rising-push : (b : ℕ) (cell : PageCell) (cells : Cells) → IsRising cells → IsAboveLast b cells → IsRising (cells ++ (b, cell) ∷ [])
rising-push b cell cells rising above = all_pairs_push (λ x y. x.0 < y.0) cells (b, cell) rising (above-all b cells rising above)

-- the first cell of a block is that block's
cell_of-first : (cells : Cells) (b at : ℕ) (d : ℕ × PageCell) → at < length cells → (get_or cells at d).0 ≡ b → ((j : ℕ) → j < at → (get_or cells j d).0 ≢ b) → cell_of cells b ≡ Some (get_or cells at d).1
cell_of-first [] b at d l e first = absurd (omega (arith, l))
cell_of-first (x ∷ rest) b zero d l e first = grind (arith, nat_tests, e)
cell_of-first (x ∷ rest) b (suc at) d l e first =
    let differs = first 0 (omega arith) in
    let found = cell_of-first rest b at d (omega (arith, l)) e (λ j below. first (suc j) (omega (arith, below))) in
    grind (arith, nat_tests, differs, found)

-- a block that no cell has isn't held
pub cell_of-none : (cells : Cells) (b : ℕ) → All (λ pair. pair.0 ≢ b) cells → cell_of cells b ≡ None
cell_of-none [] b h = refl
cell_of-none (x ∷ rest) b h =
    let differs = h 0 x (omega arith) in
    let others = cell_of-none rest b (λ j d l. h (suc j) d (omega (arith, l))) in
    grind (arith, nat_tests, differs, others)

-- where a search for a block ends, as it compares the numbers of the cells with the block's
abbrev pub EndsAt : Cells → ℕ → Result ℕ ℕ → Type 0
EndsAt cells b r = IsBinarySearchResult (λ pair. nat_cmp pair.0 b) cells r

module _ (cells : Cells) (rising : IsRising cells) (b : ℕ) where
  comparisons-rise : IsNonDecreasingBy (λ pair. ordering_index (nat_cmp pair.0 b)) cells
  comparisons-rise i j d le l =
      let blocks : (get_or cells i d).0 ≤ (get_or cells j d).0 = grind (arith, le, rising i j d, l, λ (same : i ≡ j). ap (λ (k : ℕ). (get_or cells k d).0) same) in
      grind (arith, nat_tests, blocks)

  search-same : (at : ℕ) (d : ℕ × PageCell) → EndsAt cells b (Ok at) → (get_or cells at d).0 ≡ b
  search-same at d ends = ranked _ b _ (sym (ends d))

  pub search-found : (at : ℕ) (d : ℕ × PageCell) → at < length cells → EndsAt cells b (Ok at) → cell_of cells b ≡ Some (get_or cells at d).1
  search-found at d l ends =
      let same = search-same at d ends in
      cell_of-first cells b at d l same (λ j below e. omega (arith, rising j at d below l, same, e))

  pub search-among : (at : ℕ) (d : ℕ × PageCell) → at < length cells → EndsAt cells b (Ok at) → Contains cells (b, (get_or cells at d).1)
  search-among at d l ends =
      let cell = (get_or cells at d).1 in
      (at, l, get_or_default cells at (b, cell) d l ∙ ap (λ (n : ℕ). (n, cell)) (search-same at d ends))

  pub search-none : (i : ℕ) → EndsAt cells b (Err i) → All (λ pair. pair.0 ≢ b) cells
  search-none i ends j d l e =
      let parts = ends comparisons-rise in
      let before : j < i → (get_or cells j d).0 < b = λ lt. ranked _ b _ (sym (parts.0 j d (omega arith) lt)) in
      let after : i ≤ j → b < (get_or cells j d).0 = λ le. ranked _ b _ (sym (parts.1 j d le l)) in
      grind (arith, before, after, e)
