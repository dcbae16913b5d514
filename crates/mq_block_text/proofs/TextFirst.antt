-- What is read of a text from the left is one: its good words and lines, and what ends them.
use Rattle.std.proofs.Common.{◌≡◌, ℕ, Option, Some, None, ◌<◌, ◌≤◌, ◌⊎◌, eqb, List, [], ◌∷◌, ◌++◌, sym, ◌∙◌, ap, subst, refl, inl, inr, arith, append_assoc, append-nil}
use Rattle.std.specs.Prelude.{map}
use Rattle.std.specs.List.{slice_split}
use Rattle.std.proofs.lemmas.Option.{same_Some}
use Rattle.mq_block_text.specs.declared.item.BlockItem.{BlockItem}
use Rattle.mq_block_text.specs.declared.refusal.BlockTextCause.{BlockTextCause}
use Rattle.mq_block_text.specs.declared.refusal.BlockTextCause.TheVariants.{Empty, Item, Block, Twice, Area}
use Rattle.mq_block_text.specs.Refusals.{RefusesWord, RefusesItem, PassesArea, RefusesLine}
use Rattle.mq_block_text.specs.Text.{block_of, item_text, line_text, places_of, IsGoodItem, IsUnnamed, AreGoodItems, IsGoodLine, AreGoodLines, IsGoodText}
use Rattle.mq_block_text.proofs.TextItems.{none-some, item_text_injective, good_form, block_low, item_some}
use Rattle.mq_block_text.proofs.TextLines.{unnamed_before, good_at}
use Rattle.mq_block_text.proofs.TextParts.{items_avoid, split_part, words_of_line, good_items}

-- each thing is good after those before it
abbrev pub AreGoodAfter : {A : Type 0} → (List A → A → Type 0) → List A → List A → Type 0
AreGoodAfter Good before [] = Unit {0}
AreGoodAfter Good before (x ∷ xs) = Good before x × AreGoodAfter Good (before ++ x ∷ []) xs

-- Good things that differ in their texts, and ends, of which no text has two, and no good thing's text has
-- one
module _ {A C : Type 0} (f : A → List ℕ) (Good : List A → A → Type 0) (Ends : List A → List (List ℕ) → C → Type 0)
    (injective : (xs : List A) (x y : A) → Good xs x → Good xs y → f x ≡ f y → x ≡ y)
    (apart : (xs : List A) (x : A) (rest : List (List ℕ)) (c : C) → Good xs x → Ends xs (f x ∷ rest) c → ⊥)
    (same : (xs : List A) (rest : List (List ℕ)) (c d : C) → Ends xs rest c → Ends xs rest d → c ≡ d) where
  pub same_first :
      (before xs ys : List A) (r s : List (List ℕ)) (c d : C) → AreGoodAfter Good before xs → AreGoodAfter Good before ys
      → Ends (before ++ xs) r c → Ends (before ++ ys) s d → map f xs ++ r ≡ map f ys ++ s → (xs ≡ ys) × (c ≡ d)
  same_first before [] [] r s c d p q a b e = (refl, same (before ++ []) s c d (subst (λ t. Ends (before ++ []) t c) e a) b)
  same_first before [] (y ∷ ys) r s c d p q a b e =
      absurd (apart before y (map f ys ++ s) c q.0 (subst (λ t. Ends before t c) e (subst (λ l. Ends l r c) (append-nil before) a)))
  same_first before (x ∷ xs) [] r s c d p q a b e =
      absurd (apart before x (map f xs ++ r) d p.0 (subst (λ t. Ends before t d) (sym e) (subst (λ l. Ends l s d) (append-nil before) b)))
  same_first before (x ∷ xs) (y ∷ ys) r s c d p q a b e =
      let texts : f x ≡ f y = cc in
      let more : map f xs ++ r ≡ map f ys ++ s = cc in
      let head : x ≡ y = injective before x y p.0 q.0 texts in
      let rest =
      same_first (before ++ x ∷ []) xs ys r s c d p.1
      (subst (λ z. AreGoodAfter Good (before ++ z ∷ []) ys) (sym head) q.1)
      (subst (λ l. Ends l r c) (sym (append_assoc before (x ∷ []) xs)) a)
      (subst (λ l. Ends l s d) (sym (append_assoc before (x ∷ []) ys)) (subst (λ z. Ends (before ++ z ∷ ys) s d) (sym head) b))
      more in
      ((λ i. head i ∷ rest.0 i), rest.1)

-- ---- words

abbrev pub IsGoodWord : List BlockItem → BlockItem → Type 0
IsGoodWord before i = IsGoodItem i × IsUnnamed (block_of i) before

abbrev pub EndsWords : List BlockItem → List (List ℕ) → Option BlockTextCause → Type 0
EndsWords before [] None = Unit {0}
EndsWords before [] (Some cause) = ⊥
EndsWords before (word ∷ rest) None = ⊥
EndsWords before (word ∷ rest) (Some cause) = RefusesWord before word cause

pub good_words : (before items : List BlockItem) → AreGoodItems (before ++ items) → AreGoodAfter IsGoodWord before items
good_words before [] good = tt
good_words before (i ∷ items) good =
    ((good_at before i items good, unnamed_before before i items good), good_words (before ++ i ∷ []) items (subst AreGoodItems (sym (append_assoc before (i ∷ []) items)) good))

word_injective : (before : List BlockItem) (i j : BlockItem) → IsGoodWord before i → IsGoodWord before j → item_text i ≡ item_text j → i ≡ j
word_injective before i j p q e = item_text_injective i j (good_form i p.0) (good_form j q.0) e

good_word : (before : List BlockItem) (i : BlockItem) (cause : BlockTextCause) → IsGoodWord before i → RefusesWord before (item_text i) cause → ⊥
good_word before i Empty good bad = bad
good_word before i Item good bad = bad i (good_form i good.0) refl
good_word before i Block good bad =
    let same : block_of i ≡ block_of bad.0 = ap block_of (item_text_injective i bad.0 (good_form i good.0) bad.1 bad.3) in
    let low = block_low i good.0 in
    let high = bad.2 in
    omega arith
good_word before i Twice good bad =
    let same : i ≡ bad.0 = item_text_injective i bad.0 (good_form i good.0) (good_form bad.0 bad.1) bad.3 in
    bad.2 (subst (λ j. IsUnnamed (block_of j) before) same good.1)
good_word before i Area good bad = bad

word_apart : (before : List BlockItem) (i : BlockItem) (rest : List (List ℕ)) (cause : Option BlockTextCause) → IsGoodWord before i → EndsWords before (item_text i ∷ rest) cause → ⊥
word_apart before i rest None good ends = ends
word_apart before i rest (Some cause) good ends = good_word before i cause good ends

-- a word of a block that is too high is good for no other cause
high_low : (word : List ℕ) (i j : BlockItem) → 255 < block_of i → word ≡ item_text i → IsGoodItem j → word ≡ item_text j → (i ≡ j) → ⊥
high_low word i j high e good f same = let low = block_low j good in let blocks : block_of i ≡ block_of j = ap block_of same in omega arith

one_cause : (before : List BlockItem) (word : List ℕ) (c d : BlockTextCause) → RefusesWord before word c → RefusesWord before word d → c ≡ d
one_cause before word Empty d p q = absurd p
one_cause before word Area d p q = absurd p
one_cause before word Item Empty p q = absurd q
one_cause before word Item Item p q = refl
one_cause before word Item Block p q = absurd (p q.0 q.1 q.3)
one_cause before word Item Twice p q = absurd (p q.0 (good_form q.0 q.1) q.3)
one_cause before word Item Area p q = absurd q
one_cause before word Block Empty p q = absurd q
one_cause before word Block Item p q = absurd (q p.0 p.1 p.3)
one_cause before word Block Block p q = refl
one_cause before word Block Twice p q = absurd (high_low word p.0 q.0 p.2 p.3 q.1 q.3 (item_text_injective p.0 q.0 p.1 (good_form q.0 q.1) (sym p.3 ∙ q.3)))
one_cause before word Block Area p q = absurd q
one_cause before word Twice Empty p q = absurd q
one_cause before word Twice Item p q = absurd (q p.0 (good_form p.0 p.1) p.3)
one_cause before word Twice Block p q = absurd (high_low word q.0 p.0 q.2 q.3 p.1 p.3 (item_text_injective q.0 p.0 q.1 (good_form p.0 p.1) (sym q.3 ∙ p.3)))
one_cause before word Twice Twice p q = refl
one_cause before word Twice Area p q = absurd q

word_same : (before : List BlockItem) (rest : List (List ℕ)) (c d : Option BlockTextCause) → EndsWords before rest c → EndsWords before rest d → c ≡ d
word_same before [] None None p q = refl
word_same before [] None (Some d) p q = absurd q
word_same before [] (Some c) d p q = absurd p
word_same before (word ∷ rest) None d p q = absurd p
word_same before (word ∷ rest) (Some c) None p q = absurd q
word_same before (word ∷ rest) (Some c) (Some d) p q = ap Some (one_cause before word c d p q)

same_words :
    (xs ys : List BlockItem) (r s : List (List ℕ)) (c d : Option BlockTextCause) → AreGoodItems xs → AreGoodItems ys → EndsWords xs r c → EndsWords ys s d
    → map item_text xs ++ r ≡ map item_text ys ++ s → (xs ≡ ys) × (c ≡ d)
same_words xs ys r s c d p q a b e =
    same_first item_text IsGoodWord EndsWords word_injective word_apart word_same [] xs ys r s c d (good_words [] xs p) (good_words [] ys q) a b e

-- ---- a line

-- the words of a line
abbrev Words : List ℕ → List BlockItem → Option BlockTextCause → Type 0
Words text items cause = (rest : List (List ℕ)) × (slice_split (λ b. eqb b 32) text ≡ map item_text items ++ rest) × EndsWords items rest cause

refused_words : (text : List ℕ) (cause : BlockTextCause) (bad : RefusesItem text cause) → Words text bad.before (Some cause)
refused_words text cause bad =
    let words = split_part 32 text (map item_text bad.before) bad.word (items_avoid 32 (omega arith) bad.before bad.good) bad.part in
    (bad.word ∷ words.0, words.1, bad.refused)

line_words : (text : List ℕ) (line : List BlockItem) → IsGoodLine line → text ≡ line_text line → Words text line None
line_words text line good e = ([], ap (slice_split (λ b. eqb b 32)) e ∙ words_of_line line good ∙ sym (append-nil (map item_text line)), tt)

words_same : (text : List ℕ) (xs ys : List BlockItem) (c d : Option BlockTextCause) → AreGoodItems xs → AreGoodItems ys → Words text xs c → Words text ys d → (xs ≡ ys) × (c ≡ d)
words_same text xs ys c d p q a b = same_words xs ys a.0 b.0 c d p q a.2 b.2 (sym a.1 ∙ b.1)

-- no two good lines have one text
pub line_text_injective : (l m : List BlockItem) → IsGoodLine l → IsGoodLine m → line_text l ≡ line_text m → l ≡ m
line_text_injective l m p q e =
    (words_same (line_text l) l m None None (good_items l p) (good_items m q) (line_words (line_text l) l p refl) (line_words (line_text l) m q e)).0

good_no_item : (text : List ℕ) (line : List BlockItem) (cause : BlockTextCause) → IsGoodLine line → text ≡ line_text line → RefusesItem text cause → ⊥
good_no_item text line cause good e bad =
    none-some cause (words_same text line bad.before None (Some cause) (good_items line good) bad.good (line_words text line good e) (refused_words text cause bad)).1

no_bytes : (line : List BlockItem) → IsGoodLine line → map item_text line ≡ [] ∷ [] → ⊥
no_bytes [] good e = good
no_bytes (i ∷ items) good e = item_some i (good_form i good.0) (cc)

-- a good line has bytes
pub line_some : (line : List BlockItem) → IsGoodLine line → line_text line ≡ [] → ⊥
line_some line good e = no_bytes line good (sym (words_of_line line good) ∙ ap (slice_split (λ b. eqb b 32)) e)

-- why a line is refused: it has no bytes, or an item is refused, or it passes the area
abbrev View : List (List BlockItem) → List ℕ → BlockTextCause → Type 0
View before text cause = ((cause ≡ Empty) × (text ≡ [])) ⊎ (RefusesItem text cause ⊎ ((cause ≡ Area) × PassesArea before text))

view : (before : List (List BlockItem)) (text : List ℕ) (cause : BlockTextCause) → RefusesLine before text cause → View before text cause
view before text Empty bad = inl (refl, bad)
view before text Item bad = inr (inl bad)
view before text Block bad = inr (inl bad)
view before text Twice bad = inr (inl bad)
view before text Area bad = inr (inr (refl, bad))

abbrev pub IsGoodNext : List (List BlockItem) → List BlockItem → Type 0
IsGoodNext before line = IsGoodLine line × (places_of (before ++ line ∷ []) ≤ 1024)

next_viewed : (before : List (List BlockItem)) (line : List BlockItem) (cause : BlockTextCause) → IsGoodNext before line → View before (line_text line) cause → ⊥
next_viewed before line cause good (inl bad) = line_some line good.0 bad.1
next_viewed before line cause good (inr (inl bad)) = good_no_item (line_text line) line cause good.0 refl bad
next_viewed before line cause good (inr (inr bad)) =
    let same : line ≡ bad.1.line = line_text_injective line bad.1.line good.0 bad.1.good bad.1.spelled in
    let places : places_of (before ++ line ∷ []) ≡ places_of (before ++ bad.1.line ∷ []) = ap (λ (l : List BlockItem). places_of (before ++ l ∷ [])) same in
    let over = bad.1.places in
    let within = good.1 in
    omega arith

same_viewed : (before : List (List BlockItem)) (text : List ℕ) (c d : BlockTextCause) → View before text c → View before text d → c ≡ d
same_viewed before text c d (inl p) (inl q) = p.0 ∙ sym q.0
same_viewed before text c d (inl p) (inr (inl q)) = absurd (q.some p.1)
same_viewed before text c d (inl p) (inr (inr q)) = absurd (line_some q.1.line q.1.good (sym q.1.spelled ∙ p.1))
same_viewed before text c d (inr (inl p)) (inl q) = absurd (p.some q.1)
same_viewed before text c d (inr (inl p)) (inr (inl q)) =
    same_Some c d (words_same text p.before q.before (Some c) (Some d) p.good q.good (refused_words text c p) (refused_words text d q)).1
same_viewed before text c d (inr (inl p)) (inr (inr q)) = absurd (good_no_item text q.1.line c q.1.good q.1.spelled p)
same_viewed before text c d (inr (inr p)) (inl q) = absurd (line_some p.1.line p.1.good (sym p.1.spelled ∙ q.1))
same_viewed before text c d (inr (inr p)) (inr (inl q)) = absurd (good_no_item text p.1.line d p.1.good p.1.spelled q)
same_viewed before text c d (inr (inr p)) (inr (inr q)) = p.0 ∙ sym q.0

-- ---- lines

-- the end of the text, with a line feed before it or not, or a line that is refused
abbrev pub EndsLines : List (List BlockItem) → List (List ℕ) → Option BlockTextCause → Type 0
EndsLines before [] None = Unit {0}
EndsLines before [] (Some cause) = ⊥
EndsLines before (text ∷ rest) None = (text ≡ []) × (rest ≡ [])
EndsLines before (text ∷ rest) (Some cause) = (text ≡ [] → rest ≡ [] → ⊥) × RefusesLine before text cause

next_injective : (before : List (List BlockItem)) (l m : List BlockItem) → IsGoodNext before l → IsGoodNext before m → line_text l ≡ line_text m → l ≡ m
next_injective before l m p q e = line_text_injective l m p.0 q.0 e

next_apart : (before : List (List BlockItem)) (line : List BlockItem) (rest : List (List ℕ)) (cause : Option BlockTextCause) → IsGoodNext before line → EndsLines before (line_text line ∷ rest) cause → ⊥
next_apart before line rest None good ends = line_some line good.0 ends.0
next_apart before line rest (Some cause) good ends = next_viewed before line cause good (view before (line_text line) cause ends.1)

next_same : (before : List (List BlockItem)) (rest : List (List ℕ)) (c d : Option BlockTextCause) → EndsLines before rest c → EndsLines before rest d → c ≡ d
next_same before [] None None p q = refl
next_same before [] None (Some d) p q = absurd q
next_same before [] (Some c) d p q = absurd p
next_same before (text ∷ rest) None None p q = refl
next_same before (text ∷ rest) None (Some d) p q = absurd (q.0 p.0 p.1)
next_same before (text ∷ rest) (Some c) None p q = absurd (p.0 q.0 q.1)
next_same before (text ∷ rest) (Some c) (Some d) p q = ap Some (same_viewed before text c d (view before text c p.1) (view before text d q.1))

places_front : (xs ys : List (List BlockItem)) → places_of xs ≤ places_of (xs ++ ys)
places_front [] ys = omega arith
places_front (x ∷ xs) ys = omega (arith, places_front xs ys)

good_line_at : (before : List (List BlockItem)) (line : List BlockItem) (rest : List (List BlockItem)) → AreGoodLines (before ++ line ∷ rest) → IsGoodLine line
good_line_at [] line rest good = good.0
good_line_at (l ∷ before) line rest good = good_line_at before line rest good.1

good_nexts : (before lines : List (List BlockItem)) → IsGoodText (before ++ lines) → AreGoodAfter IsGoodNext before lines
good_nexts before [] good = tt
good_nexts before (line ∷ lines) good =
    let along : IsGoodText ((before ++ line ∷ []) ++ lines) = subst IsGoodText (sym (append_assoc before (line ∷ []) lines)) good in
    let places = places_front (before ++ line ∷ []) lines in
    let all = along.1 in
    ((good_line_at before line lines good.0, omega arith), good_nexts (before ++ line ∷ []) lines along)

-- two readings of one list of lines are one
pub same_lines :
    (xs ys : List (List BlockItem)) (r s : List (List ℕ)) (c d : Option BlockTextCause) → IsGoodText xs → IsGoodText ys → EndsLines xs r c → EndsLines ys s d
    → map line_text xs ++ r ≡ map line_text ys ++ s → (xs ≡ ys) × (c ≡ d)
same_lines xs ys r s c d p q a b e =
    same_first line_text IsGoodNext EndsLines next_injective next_apart next_same [] xs ys r s c d (good_nexts [] xs p) (good_nexts [] ys q) a b e
