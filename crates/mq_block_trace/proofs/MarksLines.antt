-- The blocks that are live after a text of set items.
use Rattle.std.proofs.Common.{◌≡◌, ◌≢◌, ◌<◌, ◌≤◌, ⊎_elim, ℕ, zero, suc, ◌+◌, Bool, false, ◌||◌, cond, List, [], ◌∷◌, get_or, Option, Some, None, refl, sym, ◌∙◌, ap, subst, arith}
use Rattle.std.specs.Prelude.{is_some}
use Rattle.std.proofs.lemmas.Bool.{cases_eq, eq-eqb, ne_eqb}
use Rattle.std.proofs.lemmas.Bool.Decides.{nat_tests}
use Rattle.mq_blocks.specs.Blocks.{filled}
use Rattle.mq_blocks.specs.Journal.{is_among}
use Rattle.mq_blocks.specs.Machine.{Map, Writes, write_of, or_kept, after}
use Rattle.mq_block_text.specs.Text.{AreGoodItems, IsGoodItem, IsUnnamed}
use Rattle.mq_block_text.specs.declared.item.BlockItem.{BlockItem}
use Rattle.mq_block_text.specs.declared.item.BlockItem.TheVariants.{Set, Free}
use Rattle.mq_block_trace.specs.Lines.{set_in, freed_in, with_write, writes_from, named, transaction_of, map_after}
use Rattle.mq_block_trace.specs.Marks.{AreMarks, marked}
use Rattle.mq_block_trace.proofs.LinesFills.{Fill, named_is, not_set}

abbrev Lines : Type 0
Lines = List (List BlockItem)

write_low : (f : Fill) (low n b : ℕ) → b < low → write_of (writes_from f low n) b ≡ None
write_low f low zero b less = refl
write_low f low (suc n) b less = by (f low) (write_low f (low + 1) n b (omega arith))
  where
    by : (o : Option ℕ) → write_of (writes_from f (low + 1) n) b ≡ None → write_of (with_write low o (writes_from f (low + 1) n)) b ≡ None
    by None rest = rest
    by (Some v) rest = let ne : low ≢ b = omega arith in grind (arith, nat_tests)

write_step : (b v : ℕ) (ws : Writes) → write_of ((b, filled v) ∷ ws) b ≡ Some (filled v)
write_step b v ws = ap (λ (t : Bool). cond t (Some (filled v)) (write_of ws b)) (eq-eqb b b refl)

pub write_at : (f : Fill) (low n b : ℕ) → low ≤ b → b < low + n → is_some (write_of (writes_from f low n) b) ≡ is_some (f b)
write_at f low zero b first last = absurd (omega arith)
write_at f low (suc n) b first last = ⊎_elim
    (λ here. subst (λ (k : ℕ). is_some (write_of (writes_from f low (suc n)) k) ≡ is_some (f k)) here (by (f low)))
    (λ other. skip (f low) (let ne : low ≢ b = other in write_at f (low + 1) n b (omega arith) (omega arith)) other)
    (cases_eq low b)
  where
    by : (o : Option ℕ) → is_some (write_of (with_write low o (writes_from f (low + 1) n)) low) ≡ is_some o
    by None = ap is_some (write_low f (low + 1) n low (omega arith))
    by (Some v) = ap is_some (write_step low v (writes_from f (low + 1) n))

    skip : (o : Option ℕ) → is_some (write_of (writes_from f (low + 1) n) b) ≡ is_some (f b) → low ≢ b → is_some (write_of (with_write low o (writes_from f (low + 1) n)) b) ≡ is_some (f b)
    skip None rest ne = rest
    skip (Some v) rest ne = ap is_some (let e : write_of ((low, filled v) ∷ writes_from f (low + 1) n) b ≡ write_of (writes_from f (low + 1) n) b = grind (arith, nat_tests) in e) ∙ rest

kept_some : (o p : Option (List ℕ)) → is_some (or_kept o p) ≡ (is_some o || is_some p)
kept_some None p = refl
kept_some (Some v) p = refl

-- a block is live after a line's changes where the items say so
live_items : (is : List BlockItem) (b : ℕ) (old : Option (List ℕ)) → AreGoodItems is → (is_some (set_in is b) || is_some (cond (is_among b (freed_in is)) None old)) ≡ marked is b (is_some old)
live_items [] b old good = refl
live_items (Set c v ∷ is) b old good = ⊎_elim
    (λ here. rw (eq-eqb c b here) refl)
    (λ other. rw (ne_eqb c b other) (live_items is b old good.2))
    (cases_eq c b)
live_items (Free c ∷ is) b old good = ⊎_elim
    (λ here. rw (eq-eqb c b here) (ap (λ (o : Option ℕ). is_some o || false) (not_set is b (subst (λ (n : ℕ). IsUnnamed n is) here good.1))))
    (λ other. rw (ne_eqb c b other) (live_items is b old good.2))
    (cases_eq c b)

-- the blocks that are live after a line
pub live_more : (line : List BlockItem) (number : ℕ) (m : Map) (b : ℕ) → AreGoodItems line → b < 256 → is_some (after m (transaction_of number line) b) ≡ marked line b (is_some (m b))
unfolding after
live_more line number m b good less =
    kept_some (write_of (writes_from (set_in line) 0 named) b) (cond (is_among b (freed_in line)) None (m b))
    ∙ ap (λ (t : Bool). t || is_some (cond (is_among b (freed_in line)) None (m b))) (write_at (set_in line) 0 named b (omega arith) (let n = named_is in omega arith))
    ∙ live_items line b (m b) good

-- the marks after one line more
pub marks_more : (lines : Lines) (n : ℕ) (line : List BlockItem) (marks more : List Bool) → line ≡ get_or lines n [] → AreGoodItems line → AreMarks (map_after lines n) marks
    → ((b : ℕ) → b < 256 → get_or more b false ≡ marked line b (get_or marks b false)) → AreMarks (map_after lines (n + 1)) more
marks_more lines n line marks more is good old new b less =
    let step : is_some (map_after lines (suc n) b) ≡ marked line b (is_some (map_after lines n b)) =
    ap (λ (l : List BlockItem). is_some (after (map_after lines n) (transaction_of (n + 1) l) b)) (sym is) ∙ live_more line (n + 1) (map_after lines n) b good less in
    new b less ∙ ap (marked line b) (old b less) ∙ sym step ∙ ap (λ (k : ℕ). is_some (map_after lines k b)) (let e : suc n ≡ n + 1 = omega arith in e)

-- a good item frees a block below 256
pub good_free : (i : BlockItem) (b : ℕ) → i ≡ Free b → IsGoodItem i → b < 256
good_free i b is good = let at : IsGoodItem (Free b) = subst IsGoodItem is good in let low : b ≤ 255 = at in omega arith
