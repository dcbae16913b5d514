-- The texts of lines: no two good lines have one, and none is empty or has a line feed.
use Rattle.std.proofs.Common.{◌≡◌, ℕ, ◌+◌, ◌<◌, ◌≤◌, List, [], ◌∷◌, ◌++◌, length, get_or, drop, map, sym, ◌∙◌, ap, subst, arith}
use Rattle.std.specs.Prelude.{codes}
use Rattle.std.specs.List.{All, AllByRecursion}
use Rattle.std.proofs.Math.Seq.{take-append_seam}
use Rattle.std.proofs.lemmas.Fmt.{decimal_digit}
use Rattle.std.proofs.lemmas.List.Elements.{All-head, All-tail, All-push, All-take}
use Rattle.mq_block_text.specs.Text as items
use Rattle.mq_block_text.specs.Text.{AreGoodItems, item_text, number_text, sets_in}
use Rattle.mq_block_text.specs.declared.item.BlockItem.{BlockItem}
use Rattle.mq_block_text.proofs.TextFirst.{line_text_injective}
use Rattle.mq_block_text.proofs.TextItems.{good_form}
use Rattle.mq_block_text.proofs.TextParts.{Avoids, avoids_append, avoids_cons, avoids_none, good_items, item_avoids}
use Rattle.mq_loose_text.specs.Text.{IsGoodLine, IsGoodText, line_text, places_on, queue_count}
use Rattle.mq_loose_text.specs.declared.line.LooseLine.{LooseLine}
use Rattle.mq_loose_text.specs.declared.line.LooseLine.TheVariants.{Commit, Done}

-- ---- one line

pub queue_low : (q : ℕ) → q < queue_count → q < 4
unfolding queue_count
queue_low q h = h

digit_text : (q : ℕ) → q < queue_count → number_text q ≡ (48 + q) ∷ []
digit_text q h = decimal_digit q (omega (arith, queue_low q h))

pub commit_text : (q : ℕ) (is : List BlockItem) → q < queue_count → line_text (Commit q is) ≡ (48 + q) ∷ 32 ∷ items.line_text is
commit_text q is h = ap (λ (t : List ℕ). t ++ 32 ∷ items.line_text is) (digit_text q h)

pub done_text : (q : ℕ) → q < queue_count → line_text (Done q) ≡ codes "done " ++ (48 + q) ∷ []
done_text q h = ap (λ (t : List ℕ). codes "done " ++ t) (digit_text q h)

-- a commit begins with no `d`
pub commit_apart : (q r : ℕ) (is : List BlockItem) → q < queue_count → r < queue_count → line_text (Commit q is) ≡ line_text (Done r) → ⊥
commit_apart q r is h k e =
    let texts : (48 + q) ∷ 32 ∷ items.line_text is ≡ codes "done " ++ (48 + r) ∷ [] = sym (commit_text q is h) ∙ e ∙ done_text r k in
    let first : 48 + q ≡ 100 = ap (λ (t : List ℕ). get_or t 0 0) texts in
    let low = queue_low q h in
    omega arith

pub line_injective : (l m : LooseLine) → IsGoodLine l → IsGoodLine m → line_text l ≡ line_text m → l ≡ m
line_injective (Commit q is) (Commit r js) p o e =
    let texts : (48 + q) ∷ 32 ∷ items.line_text is ≡ (48 + r) ∷ 32 ∷ items.line_text js = sym (commit_text q is p.0) ∙ e ∙ commit_text r js o.0 in
    let digits : 48 + q ≡ 48 + r = ap (λ (t : List ℕ). get_or t 0 0) texts in
    let queues : q ≡ r = omega arith in
    let same : is ≡ js = line_text_injective is js p.1 o.1 (ap (λ (t : List ℕ). drop 2 t) texts) in
    λ i. Commit (queues i) (same i)
line_injective (Commit q is) (Done r) p o e = absurd (commit_apart q r is p.0 o e)
line_injective (Done q) (Commit r js) p o e = absurd (commit_apart r q js o.0 p (sym e))
line_injective (Done q) (Done r) p o e =
    let texts : codes "done " ++ (48 + q) ∷ [] ≡ codes "done " ++ (48 + r) ∷ [] = sym (done_text q p) ∙ e ∙ done_text r o in
    let digits : 48 + q ≡ 48 + r = ap (λ (t : List ℕ). get_or t 5 0) texts in
    let queues : q ≡ r = omega arith in
    ap Done queues

pub line_some : (l : LooseLine) → IsGoodLine l → line_text l ≡ [] → ⊥
line_some (Commit q is) good e =
    let none : length ((48 + q) ∷ 32 ∷ items.line_text is) ≡ 0 = ap length (sym (commit_text q is good.0) ∙ e) in
    omega arith
line_some (Done q) good e =
    let none : length (codes "done " ++ (48 + q) ∷ []) ≡ 0 = ap length (sym (done_text q good) ∙ e) in
    omega arith

pub items_avoid : (is : List BlockItem) → AreGoodItems is → Avoids 10 (items.line_text is)
items_avoid [] h = avoids_none 10
items_avoid (i ∷ []) h = item_avoids 10 (omega arith) i (good_form i h.0)
items_avoid (i ∷ j ∷ is) h =
    avoids_append 10 (item_text i) (32 ∷ items.line_text (j ∷ is)) (item_avoids 10 (omega arith) i (good_form i h.0))
    (avoids_cons 10 32 (items.line_text (j ∷ is)) (omega arith) (items_avoid (j ∷ is) h.2))

line_avoids : (l : LooseLine) → IsGoodLine l → Avoids 10 (line_text l)
line_avoids (Commit q is) good =
    subst (λ (t : List ℕ). Avoids 10 t) (sym (commit_text q is good.0))
    (avoids_cons 10 (48 + q) (32 ∷ items.line_text is) (omega arith)
    (avoids_cons 10 32 (items.line_text is) (omega arith) (items_avoid is (good_items is good.1))))
line_avoids (Done q) good =
    subst (λ (t : List ℕ). Avoids 10 t) (sym (done_text q good))
    (avoids_cons 10 100 (111 ∷ 110 ∷ 101 ∷ 32 ∷ (48 + q) ∷ []) (omega arith)
    (avoids_cons 10 111 (110 ∷ 101 ∷ 32 ∷ (48 + q) ∷ []) (omega arith)
    (avoids_cons 10 110 (101 ∷ 32 ∷ (48 + q) ∷ []) (omega arith)
    (avoids_cons 10 101 (32 ∷ (48 + q) ∷ []) (omega arith)
    (avoids_cons 10 32 ((48 + q) ∷ []) (omega arith) (avoids_cons 10 (48 + q) [] (omega arith) (avoids_none 10)))))))

-- ---- lines

pub lines_avoid : (lines : List LooseLine) → All IsGoodLine lines → AllByRecursion (Avoids 10) (map line_text lines)
lines_avoid [] h = tt
lines_avoid (l ∷ lines) h = (line_avoids l (All-head IsGoodLine l lines h), lines_avoid lines (All-tail IsGoodLine l lines h))

pub places_append : (q : ℕ) (xs ys : List LooseLine) → places_on q (xs ++ ys) ≡ places_on q xs + places_on q ys
places_append q [] ys = omega arith
places_append q (Commit r is ∷ xs) ys = omega (arith, places_append q xs ys)
places_append q (Done r ∷ xs) ys = places_append q xs ys

pub good_front : (xs ys : List LooseLine) → IsGoodText (xs ++ ys) → IsGoodText xs
good_front xs ys whole = record {
  good = subst (λ (ls : List LooseLine). All IsGoodLine ls) (take-append_seam xs ys) (All-take IsGoodLine (length xs) (xs ++ ys) whole.good);
  fits = λ q h. (let all = whole.fits q h in let sum = places_append q xs ys in omega arith);
}

line_there : (before : List LooseLine) (l : LooseLine) (rest : List LooseLine) → All IsGoodLine (before ++ l ∷ rest) → IsGoodLine l
line_there [] l rest good = All-head IsGoodLine l rest good
line_there (m ∷ before) l rest good = line_there before l rest (All-tail IsGoodLine m (before ++ l ∷ rest) good)

-- a line that stands in a good text is good
pub good_last : (before : List LooseLine) (l : LooseLine) → IsGoodText (before ++ l ∷ []) → IsGoodLine l
good_last before l whole = line_there before l [] whole.good

pub good_more :
    (before : List LooseLine) (l : LooseLine) → IsGoodText before → IsGoodLine l
    → ((q : ℕ) → q < queue_count → places_on q before + places_on q (l ∷ []) ≤ 1024)
    → IsGoodText (before ++ l ∷ [])
good_more before l good line few = record {
  good = All-push IsGoodLine before l good.good line;
  fits = λ q h. (let all = few q h in let sum = places_append q before (l ∷ []) in omega arith);
}
