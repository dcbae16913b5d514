-- The cells of a desk at its opening, which are made of what stands, the last block's first.
use Rattle.std.proofs.Common.{◌≡◌, ℕ, suc, ◌+◌, ◌-◌, List, [], ◌∷◌, ◌++◌, length, get_or, map, sym, ap, ◌∙◌, append-nil, append_assoc, arith}
use Rattle.std.specs.Prelude.{Option, None, reverse}
use Rattle.std.specs.List.{range_with_len}
use Rattle.std.proofs.lemmas.List.{get_or-append_right, length_push, reverse-append}
use Rattle.mq_blocks.specs.Blocks.{block_at, content}
use Rattle.mq_blocks.specs.Geometry.{homes_of}
use Rattle.mq_blocks.specs.Machine.{Map}
use Rattle.mq_blocks.specs.declared.geometry.Geometry.{Geometry}
use Rattle.mq_pages.specs.declared.page.PageCell.{PageCell}
use Rattle.mq_sessions.specs.Opening.{first_cell, first_cells}

abbrev Stored : Type 0
Stored = List (Option (List ℕ))

-- the block behind these
pub here : (before rest : Stored) (x : Option (List ℕ)) (b : ℕ) → b ≡ length before → block_at (before ++ x ∷ rest) b ≡ content x
here before rest x b at = ap content (get_or-append_right before (x ∷ rest) b b None (sym at) (omega arith) ∙ ap (λ (n : ℕ). get_or (x ∷ rest) n None) (zero-left b))
  where
    zero-left : (b : ℕ) → b - b ≡ 0
    zero-left b = omega arith

-- by what stands, what the map has
module _ (g : Geometry) (map_of : Stored → Map) where
  -- The cells of the blocks from b on are made, and the blocks before it are left.
  pub record HasMadeCells (s : Stored) (base : ℕ) (left : Stored) (made : List PageCell) : Type 0 where
    pub rest : Stored
    pub whole : s ≡ left ++ rest
    pub count : length left + length made ≡ homes_of g
    pub cells : reverse made ≡ map (λ b. first_cell base (map_of s b)) (range_with_len (length left) (homes_of g - length left))

  pub made-none : (s : Stored) (base : ℕ) (made : List PageCell) → length s ≡ homes_of g → made ≡ [] → HasMadeCells s base s made
  made-none s base made all none =
      let zero_left : homes_of g - length s ≡ 0 = omega arith in
      record {
        rest = [];
        whole = sym (append-nil s);
        count = let l = ap length none in omega arith;
        cells = ap reverse none ∙ sym (ap (λ (k : ℕ). map (λ b. first_cell base (map_of s b)) (range_with_len (length s) k)) zero_left);
      }

  pub made-more : (s : Stored) (base b : ℕ) (left now : Stored) (x : Option (List ℕ)) (made more : List PageCell) (c : PageCell)
      → HasMadeCells s base left made → left ≡ now ++ x ∷ [] → b ≡ length now → ((rest : Stored) → c.content ≡ map_of (now ++ x ∷ rest) b) → c ≡ first_cell base c.content → more ≡ made ++ c ∷ []
      → HasMadeCells s base now more
  made-more s base b left now x made more c h is at content_is cell pushed =
      let f = λ (k : ℕ). first_cell base (map_of s k) in
      let more_left : length left ≡ length now + 1 = ap length is ∙ length_push now x in
      let more_made : length more ≡ length made + 1 = ap length pushed ∙ length_push made c in
      let all = h.count in
      let count : homes_of g - length now ≡ suc (homes_of g - length left) = omega arith in
      let whole : s ≡ now ++ x ∷ h.rest = h.whole ∙ (ap (λ (l : Stored). l ++ h.rest) is ∙ append_assoc now (x ∷ []) h.rest) in
      let first : c ≡ f (length now) = cell ∙ ap (first_cell base) (content_is h.rest ∙ (ap (λ (l : Stored). map_of l b) (sym whole) ∙ ap (map_of s) at)) in
      record {
        rest = x ∷ h.rest;
        whole = whole;
        count = omega arith;
        cells = ap reverse pushed ∙ (reverse-append made (c ∷ []) ∙ (ap (λ (cs : List PageCell). c ∷ cs) h.cells
            ∙ (ap (λ (d : PageCell). d ∷ map f (range_with_len (length left) (homes_of g - length left))) first
            ∙ (ap (λ (k : ℕ). f (length now) ∷ map f (range_with_len k (homes_of g - length left))) more_left
            ∙ sym (ap (λ (k : ℕ). map f (range_with_len (length now) k)) count)))));
      }

  pub made-all : (s : Stored) (base : ℕ) (left : Stored) (made : List PageCell) → HasMadeCells s base left made → left ≡ [] → reverse made ≡ first_cells g (map_of s) base
  made-all s base left made h none =
      let f = λ (k : ℕ). first_cell base (map_of s k) in
      let whole : homes_of g - 0 ≡ homes_of g = omega arith in
      h.cells ∙ (ap (λ (l : Stored). map f (range_with_len (length l) (homes_of g - length l))) none ∙ ap (λ (k : ℕ). map f (range_with_len 0 k)) whole)
