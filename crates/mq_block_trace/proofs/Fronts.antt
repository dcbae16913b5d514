-- How far the lines of a text are done on the machine of one queue, by its head.
use Rattle.std.proofs.Common.{◌≡◌, ◌<◌, ◌≤◌, ℕ, zero, suc, ◌+◌, Bool, true, false, leb, List, [], ◌∷◌, length, refl, sym, ◌∙◌, ap, subst, inl, inr, arith}
use Rattle.std.specs.Prelude.{◌&&◌}
use Rattle.std.proofs.lemmas.Bool.{and_from, cases_eq, le-leb, lt-leb}
use Rattle.mq_blocks.specs.Drive.{PortState}
use Rattle.mq_blocks.specs.declared.geometry.Geometry.{Geometry}
use Rattle.mq_block_text.specs.Text.{IsGoodText, places_of, sets_in}
use Rattle.mq_block_text.specs.declared.item.BlockItem.{BlockItem}
use Rattle.mq_core.proofs.HistoryFronts.{part-all, part-less}
use Rattle.mq_core.specs.Reach.{is_stored, stored_front}
use Rattle.mq_ledger.specs.History.{all_of, of_queue, part_of, writes}
use Rattle.mq_ledger.specs.Items.{descriptor_blocks, end_of, next, total}
use Rattle.mq_ledger.specs.State.{front_of, is_done}
use Rattle.mq_ledger.specs.declared.tx.Tx.{Tx}
use Rattle.mq_block_trace.specs.Lines.{line_at, map_after}
use Rattle.mq_block_trace.specs.Prefixes.{places_upto}
use Rattle.mq_block_trace.specs.Traced.{drawn_at, drawn_upto}
use Rattle.mq_block_trace.proofs.Drawn.{entries_are}
use Rattle.mq_block_trace.proofs.LinesFills.{good_line_at}
use Rattle.mq_block_trace.proofs.OneQueue.{at}

abbrev pub Lines : Type 0
Lines = List (List BlockItem)

-- ---- places

places_first : (l : List BlockItem) (ls : Lines) (n : ℕ) → places_upto (l ∷ ls) (suc n) ≡ sets_in l + 1 + places_upto ls n
places_first l ls zero = omega arith
places_first l ls (suc n) = let first = places_first l ls n in omega arith

places_all : (lines : Lines) → places_upto lines (length lines) ≡ places_of lines
places_all [] = refl
places_all (l ∷ ls) = omega (arith, places_first l ls (length ls), places_all ls)

pub places_more : (lines : Lines) (n m : ℕ) → n ≤ m → places_upto lines n ≤ places_upto lines m
places_more lines n zero low = subst (λ (k : ℕ). places_upto lines k ≤ 0) (let e : 0 ≡ n = omega arith in e) (omega arith)
places_more lines n (suc m) low = elim (cases_eq n (suc m)) [
  | inl same ↦ subst (λ (k : ℕ). places_upto lines k ≤ places_upto lines (suc m)) (sym same) (omega arith)
  | inr other ↦ (let rest = places_more lines n m (omega (arith, other)) in omega arith)
]

module _ (lines : Lines) (good : IsGoodText lines) where
  pub places_few : (n : ℕ) → n ≤ length lines → places_upto lines n ≤ 1024
  places_few n within = omega (arith, places_more lines n (length lines) within, places_all lines, good.1)

  -- ---- the transactions

  pub own_all : (n : ℕ) → of_queue 0 (drawn_upto lines n) ≡ drawn_upto lines n
  own_all zero = refl
  own_all (suc n) = ap (λ (ts : List Tx). drawn_at lines n ∷ ts) (own_all n)

  pub length-drawn : (n : ℕ) → length (drawn_upto lines n) ≡ n
  length-drawn zero = refl
  length-drawn (suc n) = ap suc (length-drawn n)

  pub entries_at : (n : ℕ) → n < length lines → (writes (drawn_at lines n) + descriptor_blocks (drawn_at lines n) ≡ sets_in (line_at lines n) + 1) × (length (drawn_at lines n).logged + descriptor_blocks (drawn_at lines n) ≡ sets_in (line_at lines n) + 1)
  entries_at n within = entries_are (map_after lines n) (n + 1) (line_at lines n) (good_line_at lines n within good.0)

  pub total_is : (n : ℕ) → n ≤ length lines → total (drawn_upto lines n) ≡ places_upto lines n
  total_is zero within = refl
  total_is (suc n) within = omega (arith, total_is n (omega arith), (entries_at n (omega arith)).0)

  pub next_is : (n : ℕ) → n ≤ length lines → next (drawn_upto lines n) ≡ places_upto lines n
  next_is zero within = refl
  next_is (suc n) within = omega (arith, next_is n (omega arith), (entries_at n (omega arith)).1)

  pub end_is : (n : ℕ) → n ≤ length lines → end_of 0 (of_queue 0 (drawn_upto lines n)) ≡ places_upto lines n
  end_is n within = omega (arith, ap total (own_all n), total_is n within)

  -- a transaction's entries end behind its line's places
  count_is : (n : ℕ) → n < length lines → end_of 0 (of_queue 0 (drawn_upto lines n)) + (writes (drawn_at lines n) + descriptor_blocks (drawn_at lines n)) ≡ places_upto lines (suc n)
  count_is n within = omega (arith, end_is n (omega arith), (entries_at n within).0)

  -- ---- those of which something holds

  abbrev Test : Type 0
  Test = Tx → List Tx → Bool

  abbrev Each : Test → ℕ → Type 0
  Each w n = (k : ℕ) → k < n → w (drawn_at lines k) (drawn_upto lines k) ≡ true

  all_lines : (w : Test) (n : ℕ) → Each w n → all_of w (drawn_upto lines n) ≡ true
  all_lines w zero each = refl
  all_lines w (suc n) each = and_from _ _ (each n (omega arith)) (all_lines w n (λ k less. each k (omega arith)))

  part_whole : (w : Test) (n : ℕ) → Each w n → length (part_of w (drawn_upto lines n)) ≡ n
  part_whole w zero each = refl
  part_whole w (suc n) each = ap length (part-all w (drawn_at lines n) (drawn_upto lines n) (all_lines w (suc n) each)) ∙ length-drawn (suc n)

  part_before : (w : Test) (n : ℕ) → Each w n → w (drawn_at lines n) (drawn_upto lines n) ≡ false → length (part_of w (drawn_upto lines (suc n))) ≡ n
  part_before w n each stops =
      ap length (part-less w (drawn_at lines n) (drawn_upto lines n) (ap (λ (b : Bool). b && all_of w (drawn_upto lines n)) stops)) ∙ part_whole w n each

  -- ---- the fronts

  from_none : (n m : ℕ) → n ≡ m → 0 + n ≡ m
  from_none n m same = omega (arith, same)

  below_head : (n head : ℕ) → n ≤ length lines → places_upto lines n ≤ head → (k : ℕ) → k < n
      → leb (end_of 0 (of_queue 0 (drawn_upto lines k)) + (writes (drawn_at lines k) + descriptor_blocks (drawn_at lines k))) head ≡ true
  below_head n head within low k less = le-leb _ _ (omega (arith, count_is k (omega arith), places_more lines (suc k) n less))

  above_head : (n head : ℕ) → n < length lines → head ≡ places_upto lines n
      → leb (end_of 0 (of_queue 0 (drawn_upto lines n)) + (writes (drawn_at lines n) + descriptor_blocks (drawn_at lines n))) head ≡ false
  above_head n head within is = lt-leb _ _ (omega (arith, count_is n within))

  pub all_done : (n : ℕ) (p : PortState) → n ≤ length lines → p.head ≡ places_upto lines n → all_of (is_done (0 ∷ []) (p ∷ [])) (drawn_upto lines n) ≡ true
  all_done n p within is = all_lines (is_done (0 ∷ []) (p ∷ [])) n (below_head n p.head within (omega (arith, is)))

  module _ (g : Geometry) (p : PortState) (mark : ℕ) (told : List ℕ) where
    pub front_whole : (n : ℕ) → n ≤ length lines → p.head ≡ places_upto lines n → front_of (at g (drawn_upto lines n) p mark told) ≡ n
    front_whole n within is = from_none _ n (part_whole (is_done (0 ∷ []) (p ∷ [])) n (below_head n p.head within (omega (arith, is))))

    pub front_before : (n : ℕ) → n < length lines → p.head ≡ places_upto lines n → front_of (at g (drawn_upto lines (suc n)) p mark told) ≡ n
    front_before n within is = from_none _ n (part_before (is_done (0 ∷ []) (p ∷ [])) n (below_head n p.head (omega arith) (omega (arith, is))) (above_head n p.head within is))

    pub stored_whole : (n : ℕ) → n ≤ length lines → p.stored_head ≡ places_upto lines n → stored_front (at g (drawn_upto lines n) p mark told) ≡ n
    stored_whole n within is = from_none _ n (part_whole (is_stored (0 ∷ []) (p ∷ [])) n (below_head n p.stored_head within (omega (arith, is))))
