-- Where lines are cut into words.
use Rattle.std.proofs.Common.{◌≡◌, ℕ, Bool, true, false, eqb, ltb, cond, Option, Some, None, ◌+◌, ◌-◌, ◌<◌, ◌≤◌, List, [], ◌∷◌, length, take, drop, sym, ◌∙◌, ap, refl, arith, length-drop}
use Rattle.std.specs.Prelude.{not}
use Rattle.std.specs.List.{join_with_byte, onto_first, position_or_len}
use Rattle.std.proofs.lemmas.Bool.{ltb-true, ltb-false}
use Rattle.std.proofs.lemmas.List.{take_all}
use Rattle.std.proofs.lemmas.List.Splits.{slice_split_first, join_with_byte-slice_split}
use Rattle.std.proofs.lemmas.Option.{cond_some}
use Rattle.mq_block_text.proofs.TextParts.{split_some}
use Rattle.mq_block_text.specs.Words.{words_of, one_of}
use Rattle.mq_script.specs.Words.{rest_of}

abbrev pub is_space : ℕ → Bool
is_space b = eqb b 32

-- where the first space stands, if one does
abbrev pub space_in : List ℕ → Option ℕ
space_in text = cond (ltb (position_or_len is_space text) (length text)) (Some (position_or_len is_space text)) None

none_of : (b : Bool) (n : ℕ) → cond b (Some n) None ≡ None → b ≡ false
none_of true n e = absurd (some_is n e) where
  some_is : (n : ℕ) → ◌≡◌ {A = Option ℕ} (Some n) None → ⊥
  some_is n e = cc
none_of false n e = refl

-- the words of a text with a space in it
pub words_at :
    (text : List ℕ) (r : Option ℕ) (at : ℕ) → r ≡ space_in text → r ≡ Some at
    → words_of text ≡ take at text ∷ words_of (take (length text - (at + 1)) (drop (at + 1) text))
words_at text r at found is =
    let place = cond_some (ltb (position_or_len is_space text) (length text)) (position_or_len is_space text) at (sym found ∙ is) in
    let inside : position_or_len is_space text < length text = ltb-true (position_or_len is_space text) (length text) place.0 in
    let all : take (length text - (at + 1)) (drop (at + 1) text) ≡ drop (at + 1) text = take_all (length text - (at + 1)) (drop (at + 1) text) (omega (arith, length-drop (at + 1) text)) in
    slice_split_first is_space text 0 inside
    ∙ ap (λ (n : ℕ). take n text ∷ words_of (drop (n + 1) text)) place.1
    ∙ ap (λ t. take at text ∷ words_of t) (sym all)

whole_step :
    (x : ℕ) (xs : List ℕ) (b : Bool) → is_space x ≡ b → length xs + 1 ≤ cond (not b) (1 + position_or_len is_space xs) 0
    → (length xs ≤ position_or_len is_space xs → words_of xs ≡ xs ∷ [])
    → cond b ([] ∷ words_of xs) (onto_first x (words_of xs)) ≡ (x ∷ xs) ∷ []
whole_step x xs true e h more = absurd (omega arith)
whole_step x xs false e h more = ap (onto_first x) (more (omega arith))

-- a text with no space is one word
words_whole : (text : List ℕ) → length text ≤ position_or_len is_space text → words_of text ≡ text ∷ []
words_whole [] h = refl
words_whole (x ∷ xs) h = whole_step x xs (is_space x) refl (omega (arith, h)) (words_whole xs)

pub words_alone : (text : List ℕ) (r : Option ℕ) → r ≡ space_in text → r ≡ None → words_of text ≡ text ∷ []
words_alone text r found is =
    words_whole text (ltb-false (position_or_len is_space text) (length text) (none_of (ltb (position_or_len is_space text) (length text)) (position_or_len is_space text) (sym found ∙ is)))

many : (w : List ℕ) (ws : List (List ℕ)) → (ws ≡ [] → ⊥) → one_of (w ∷ ws) ≡ None
many w [] some = absurd (some refl)
many w (x ∷ ws) some = refl

-- a text with a space in it is not one word
pub one_of_more : (text w rest : List ℕ) → words_of text ≡ w ∷ words_of rest → one_of (words_of text) ≡ None
one_of_more text w rest e = ap one_of e ∙ many w (words_of rest) (split_some is_space rest)

rest_step : (a b : List ℕ) (ws : List (List ℕ)) → (ws ≡ [] → ⊥) → rest_of (a ∷ b ∷ ws) ≡ Some (a, b, join_with_byte 32 ws)
rest_step a b [] some = absurd (some refl)
rest_step a b (c ∷ ws) some = refl

-- the rest of a text after two words
pub rest_of_three :
    (text a second b rest : List ℕ) → words_of text ≡ a ∷ words_of second → words_of second ≡ b ∷ words_of rest
    → rest_of (words_of text) ≡ Some (a, b, rest)
rest_of_three text a second b rest e f =
    ap rest_of (e ∙ ap (λ ws. a ∷ ws) f) ∙ rest_step a b (words_of rest) (split_some is_space rest)
    ∙ ap (λ (t : List ℕ). Some (a, b, t)) (join_with_byte-slice_split 32 rest)
