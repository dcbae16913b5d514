-- The items of a commit are a block text of one line.
use Rattle.std.proofs.Common.{◌≡◌, ℕ, zero, suc, Option, Some, None, ◌+◌, ◌<◌, ◌≤◌, List, [], ◌∷◌, ◌++◌, length, get_or, inl, inr, refl, sym, ◌∙◌, ap, subst, arith, length-append}
use Rattle.std.specs.Prelude.{Result, Ok, Err, MatchResult}
use Rattle.std.proofs.lemmas.Bool.{eqb-false}
use Rattle.std.proofs.lemmas.List.{get_or_push}
use Rattle.mq_block_text.specs.Text.{IsGoodLine, IsGoodText, IsTextOf, line_text, sets_in}
use Rattle.mq_block_text.specs.declared.item.BlockItem.{BlockItem}
use Rattle.mq_block_text.specs.declared.refusal.BlockTextRefusal.{BlockTextRefusal}
use Rattle.mq_block_text.specs.declared.refusal.BlockTextCause.{BlockTextCause}
use Rattle.mq_block_text.specs.declared.refusal.BlockTextRefusal.TheVariants.{At, OutOfMemory}
use Rattle.mq_block_text.proofs.TextParts.{good_items}
use Rattle.mq_block_text.proofs.TextWhole.{IsBody}
use Rattle.mq_block_trace.specs.Lines.{named, set_in, with_write, writes_from}
use Rattle.mq_block_trace.proofs.LinesFills.{length-writes_sets}
use Rattle.mq_blocks.specs.Machine.{Writes}
use Rattle.mq_loose_text.proofs.LooseLines.{items_avoid}

one_write : (b : ℕ) (o : Option ℕ) (ws : Writes) (n : ℕ) → length ws ≤ n → length (with_write b o ws) ≤ suc n
one_write b None ws n h = omega arith
one_write b (Some v) ws n h = omega arith

few_writes : (fill : ℕ → Option ℕ) (b n : ℕ) → length (writes_from fill b n) ≤ n
few_writes fill b zero = omega arith
few_writes fill b (suc n) = one_write b (fill b) (writes_from fill (b + 1) n) n (few_writes fill (b + 1) n)

named_few : named ≤ 256
unfolding named
named_few = omega arith

-- a good line sets each block at most once
pub sets_few : (is : List BlockItem) → IsGoodLine is → sets_in is ≤ 256
sets_few is good =
    let long = length-writes_sets is (good_items is good) in
    let few = few_writes (set_in is) 0 named in
    let all = named_few in
    omega arith

-- a good line is a good text
line_is_text : (is : List BlockItem) → IsGoodLine is → IsTextOf (line_text is) (is ∷ [])
line_is_text [] good = absurd good
line_is_text (i ∷ is) good = inr (refl, tt)

line_is_good : (is : List BlockItem) → IsGoodLine is → IsGoodText (is ∷ [])
line_is_good is good = let few = sets_few is good in ((good, tt), omega arith)

abbrev pub Answer : Type 0
Answer = Result (List (List BlockItem)) BlockTextRefusal

-- a text that is read as a good line is read as that alone
pub one_line :
    (text : List ℕ) (r : Answer)
    → ((lines : List (List BlockItem)) → IsTextOf text lines → IsGoodText lines → MatchResult r (λ t. t ≡ lines) (λ e. e ≡ OutOfMemory))
    → (is : List BlockItem) → IsGoodLine is → text ≡ line_text is → MatchResult r (λ t. t ≡ is ∷ []) (λ e. e ≡ OutOfMemory)
one_line text r only is good e = only (is ∷ []) (subst (λ (t : List ℕ). IsTextOf t (is ∷ [])) (sym e) (line_is_text is good)) (line_is_good is good)

-- a good line has no line feed at its end
pub no_feed : (text front : List ℕ) → text ≡ front ++ 10 ∷ [] → (is : List BlockItem) → IsGoodLine is → text ≡ line_text is → ⊥
no_feed text front ends is good e =
    let avoids = items_avoid is (good_items is good) in
    let whole : front ++ 10 ∷ [] ≡ line_text is = sym ends ∙ e in
    let long : length front < length (line_text is) = omega (arith, ap length whole, length-append front (10 ∷ [])) in
    let last : get_or (line_text is) (length front) 0 ≡ 10 = ap (λ (t : List ℕ). get_or t (length front) 0) (sym whole) ∙ get_or_push front 10 0 (length front) refl in
    eqb-false (get_or (line_text is) (length front) 0) 10 (avoids (length front) 0 long) last

-- the text without the line feed at its end, where it has one
pub shorter : (text body : List ℕ) → IsBody text body → length body < length text → text ≡ body ++ 10 ∷ []
shorter text body (inl e) short = e
shorter text body (inr e) short = let same : length text ≡ length body = ap length e.0 in absurd (omega arith)

abbrev pub Only : List ℕ → Answer → Type 0
Only text r = (lines : List (List BlockItem)) → IsTextOf text lines → IsGoodText lines → MatchResult r (λ t. t ≡ lines) (λ e. e ≡ OutOfMemory)

pub read_one : (text : List ℕ) (r : Answer) (lines : List (List BlockItem)) → r ≡ Ok lines → Only text r → (is : List BlockItem) → IsGoodLine is → text ≡ line_text is → length lines ≡ 1
read_one text r lines ok only is good e =
    let same : lines ≡ is ∷ [] = subst (λ (x : Answer). MatchResult x (λ t. t ≡ is ∷ []) (λ f. f ≡ OutOfMemory)) ok (one_line text r only is good e) in
    ap length same

pub not_refused : (text : List ℕ) (r : Answer) (line : ℕ) (cause : BlockTextCause) → r ≡ Err (At line cause) → Only text r → (is : List BlockItem) → IsGoodLine is → text ≡ line_text is → ⊥
not_refused text r line cause bad only is good e =
    let same : At line cause ≡ OutOfMemory = subst (λ (x : Answer). MatchResult x (λ t. t ≡ is ∷ []) (λ f. f ≡ OutOfMemory)) bad (one_line text r only is good e) in
    absurd cc
