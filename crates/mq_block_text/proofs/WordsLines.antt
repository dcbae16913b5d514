-- The bytes of words, and the lines of texts.
use Rattle.std.proofs.Common.{◌≡◌, ℕ, suc, Bool, true, false, eqb, cond, Option, Some, ◌+◌, ◌-◌, ◌^◌, ◌<◌, ◌≤◌, List, [], ◌∷◌, ◌++◌, length, get_or, take, drop, inl, inr, sym, ◌∙◌, ap, refl, arith, append_assoc, length-append}
use Rattle.std.specs.Prelude.{◌&&◌, nat_le, codes, decimal, bytes_eq}
use Rattle.std.specs.List.{AllByRecursion, find, list_all, slice_split, join_with_byte}
use Rattle.std.proofs.Math.Seq.{take-append_seam, drop-append_seam}
use Rattle.std.proofs.lemmas.Bool.{le-leb, and_from, and_parts}
use Rattle.std.proofs.lemmas.List.{take-append-drop}
use Rattle.std.proofs.lemmas.List.Elements.{All-cons}
use Rattle.std.proofs.lemmas.List.Folds.{list_all-append}
use Rattle.std.proofs.lemmas.List.Splits.{join_with_byte-slice_split}
use Rattle.std.proofs.lemmas.Option.{same_Some}
use Rattle.std.proofs.lemmas.Slice.Eq.{bytes_eq-Decides}
use Rattle.mq_block_text.specs.Refusals.{ended}
use Rattle.mq_block_text.specs.Words.{AreLines, is_plain, is_visible, lines_of, without_line_feed}
use Rattle.mq_block_text.proofs.TextNumbers.{numeral_of}
use Rattle.mq_block_text.proofs.TextParts.{Avoids, avoids_none, split_of_join, split_some}

-- ---- tests of all bytes

pub weaker : (p q : ℕ → Bool) → ((b : ℕ) → p b ≡ true → q b ≡ true) → (xs : List ℕ) → list_all p xs ≡ true → list_all q xs ≡ true
weaker p q f [] h = refl
weaker p q f (x ∷ xs) h = and_from (q x) (list_all q xs) (f x (and_parts (p x) (list_all p xs) h).0) (weaker p q f xs (and_parts (p x) (list_all p xs) h).1)

pub joined : (p : ℕ → Bool) (xs ys : List ℕ) → list_all p xs ≡ true → list_all p ys ≡ true → list_all p (xs ++ ys) ≡ true
joined p xs ys a b = list_all-append p xs ys ∙ and_from (list_all p xs) (list_all p ys) a b

pub avoids : (p : ℕ → Bool) (at : ℕ) → ((b : ℕ) → p b ≡ true → eqb b at ≡ false) → (xs : List ℕ) → list_all p xs ≡ true → Avoids at xs
avoids p at f [] h = avoids_none at
avoids p at f (x ∷ xs) h = All-cons (λ y. eqb y at ≡ false) x xs (f x (and_parts (p x) (list_all p xs) h).0) (avoids p at f xs (and_parts (p x) (list_all p xs) h).1)

-- ---- visible bytes

visible_plain : (b : ℕ) → is_visible b ≡ true → is_plain b ≡ true
visible_plain b h = grind arith

pub visible_space : (b : ℕ) → is_visible b ≡ true → eqb b 32 ≡ false
visible_space b h = grind arith

pub plain_of : (text : List ℕ) → list_all is_visible text ≡ true → list_all is_plain text ≡ true
plain_of text h = weaker is_visible is_plain visible_plain text h

by_index : (p : ℕ → Bool) (xs : List ℕ) → ((k : ℕ) → k < length xs → p (get_or xs k 0) ≡ true) → list_all p xs ≡ true
by_index p [] h = refl
by_index p (x ∷ xs) h = and_from (p x) (list_all p xs) (h 0 (omega arith)) (by_index p xs (λ k l. h (suc k) (omega (arith, l))))

digit_visible : (d : ℕ) → 48 ≤ d → d ≤ 57 → is_visible d ≡ true
digit_visible d low high = and_from (nat_le 33 d) (nat_le d 126) (le-leb 33 d (omega (arith, low))) (le-leb d 126 (omega (arith, high)))

pub number_visible : (n : ℕ) → n < 2 ^ 64 → list_all is_visible (decimal n) ≡ true
number_visible n h = by_index is_visible (decimal n) (λ k l. let digit = (numeral_of (decimal n) n h refl).2 k l in digit_visible (get_or (decimal n) k 0) digit.0 digit.1)

-- ---- no line has a line feed

plain_feed : (b : ℕ) → is_plain b ≡ true → eqb b 10 ≡ false
plain_feed b h = grind arith

pub no_feed : (text : List ℕ) → list_all is_plain text ≡ true → Avoids 10 text
no_feed text h = avoids is_plain 10 plain_feed text h

-- ---- lines that were ended are cut where they end

pub ended_join : (line : List ℕ) (lines : List (List ℕ)) → ended 10 (line ∷ lines) ≡ join_with_byte 10 (line ∷ lines) ++ 10 ∷ []
ended_join line [] = refl
ended_join line (next ∷ lines) = ap (λ t. line ++ 10 ∷ t) (ended_join next lines) ∙ sym (append_assoc line (10 ∷ join_with_byte 10 (next ∷ lines)) (10 ∷ []))

pub some_lines : (bytes : List ℕ) → 0 < length bytes → lines_of bytes ≡ slice_split (λ c. eqb c 10) (without_line_feed bytes)
some_lines [] h = absurd (omega arith)
some_lines (b ∷ bytes) h = refl

front_of : (text : List ℕ) (n : ℕ) → n ≡ length text → cond (bytes_eq (drop n (text ++ 10 ∷ [])) (codes "\n")) (take n (text ++ 10 ∷ [])) (text ++ 10 ∷ []) ≡ text
front_of text n e =
    ap (λ (k : ℕ). cond (bytes_eq (drop k (text ++ 10 ∷ [])) (codes "\n")) (take k (text ++ 10 ∷ [])) (text ++ 10 ∷ [])) e
    ∙ ap (λ (t : List ℕ). cond (bytes_eq t (codes "\n")) (take (length text) (text ++ 10 ∷ [])) (text ++ 10 ∷ [])) (drop-append_seam text (10 ∷ []))
    ∙ take-append_seam text (10 ∷ [])

lines_ended : (text : List ℕ) → lines_of (text ++ 10 ∷ []) ≡ slice_split (λ c. eqb c 10) text
lines_ended text =
    some_lines (text ++ 10 ∷ []) (omega (arith, length-append text (10 ∷ [])))
    ∙ ap (slice_split (λ c. eqb c 10)) (front_of text (length (text ++ 10 ∷ []) - 1) (omega (arith, length-append text (10 ∷ []))))

pub lines_again : (lines : List (List ℕ)) → AllByRecursion (Avoids 10) lines → lines_of (ended 10 lines) ≡ lines
lines_again [] h = refl
lines_again (line ∷ lines) h = ap lines_of (ended_join line lines) ∙ lines_ended (join_with_byte 10 (line ∷ lines)) ∙ split_of_join 10 line lines h.0 h.1

-- ---- the lines of any text

ends_in_feed : (text : List ℕ) → bytes_eq (drop (length text - 1) text) (codes "\n") ≡ true → text ≡ take (length text - 1) text ++ 10 ∷ []
ends_in_feed text h =
    let same : drop (length text - 1) text ≡ 10 ∷ [] = (bytes_eq-Decides (drop (length text - 1) text) (codes "\n")).0 h in
    sym (take-append-drop (length text - 1) text) ∙ ap (λ (l : List ℕ). take (length text - 1) text ++ l) same

cut_ended : (text : List ℕ) → ended 10 (slice_split (λ c. eqb c 10) text) ≡ text ++ 10 ∷ []
cut_ended text = step (slice_split (λ c. eqb c 10) text) (split_some (λ c. eqb c 10) text) (join_with_byte-slice_split 10 text)
  where
    step : (parts : List (List ℕ)) → (parts ≡ [] → ⊥) → join_with_byte 10 parts ≡ text → ended 10 parts ≡ text ++ 10 ∷ []
    step [] some is = absurd (some refl)
    step (x ∷ xs) some is = ended_join x xs ∙ ap (λ (l : List ℕ). l ++ 10 ∷ []) is

-- a text is its lines, each ended by a line feed but for the last
pub lines_are : (text : List ℕ) → AreLines text (lines_of text)
lines_are [] = inl refl
lines_are (b ∷ bs) = step (bytes_eq (drop (length (b ∷ bs) - 1) (b ∷ bs)) (codes "\n")) refl
  where
    step : (t : Bool) → bytes_eq (drop (length (b ∷ bs) - 1) (b ∷ bs)) (codes "\n") ≡ t → AreLines (b ∷ bs) (slice_split (λ c. eqb c 10) (cond t (take (length (b ∷ bs) - 1) (b ∷ bs)) (b ∷ bs)))
    step true feed = inl (ends_in_feed (b ∷ bs) feed ∙ sym (cut_ended (take (length (b ∷ bs) - 1) (b ∷ bs))))
    step false feed = inr (sym (cut_ended (b ∷ bs)))

-- ---- words of a list

-- what is found by its word has that word
pub word_found : {V : Type 0} (name : V → List ℕ) (word : List ℕ) (all : List V) (v : V) → find (λ x. bytes_eq word (name x)) all ≡ Some v → word ≡ name v
word_found name word [] v e = absurd (cc)
word_found name word (x ∷ all) v e = step (λ q. word_found name word all v q) (bytes_eq word (name x)) refl e
  where
    step : (find (λ y. bytes_eq word (name y)) all ≡ Some v → word ≡ name v) → (t : Bool) → bytes_eq word (name x) ≡ t → cond t (Some x) (find (λ y. bytes_eq word (name y)) all) ≡ Some v → word ≡ name v
    step again true is p = (bytes_eq-Decides word (name x)).0 is ∙ ap name (same_Some x v p)
    step again false is p = again p
