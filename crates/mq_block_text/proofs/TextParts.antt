-- Where texts are cut: the words of a line, and the lines of a text.
use Rattle.std.proofs.Common.{◌≡◌, ◌≢◌, ℕ, Bool, true, false, eqb, cond, ◌^◌, ◌/◌, ◌%◌, ◌<◌, List, [], ◌∷◌, ◌++◌, length, get_or, sym, ◌∙◌, ap, subst, refl, inl, inr, arith, append_assoc}
use Rattle.std.specs.Prelude.{map}
use Rattle.std.specs.Fmt.{decimal}
use Rattle.std.specs.List.{All, AllByRecursion, onto_first, slice_split, join_with_byte}
use Rattle.std.proofs.lemmas.Bool.{eq-eqb, eqb-false, ne_eqb}
use Rattle.std.proofs.lemmas.List.Elements.{All-cons, All-append}
use Rattle.std.proofs.lemmas.List.Splits.{slice_split_none, slice_split_at, join_with_byte-slice_split, length-slice_split}
use Rattle.mq_block_text.specs.declared.item.BlockItem.{BlockItem}
use Rattle.mq_block_text.specs.declared.item.BlockItem.TheVariants.{Set, Free}
use Rattle.mq_block_text.specs.Refusals.{ended, IsPart}
use Rattle.mq_block_text.specs.Text.{hex_digit, hex_text, item_text, line_text, HasForm, AreGoodItems, IsGoodLine}
use Rattle.mq_block_text.proofs.TextItems.{good_form}
use Rattle.mq_block_text.proofs.TextNumbers.{decimal_digits}

-- the byte is nowhere in the text
abbrev pub Avoids : ℕ → List ℕ → Type 0
Avoids at text = All (λ x. eqb x at ≡ false) text

apart : (x at : ℕ) → at < x → eqb x at ≡ false
apart x at h = ne_eqb x at (omega arith)

pub avoids_none : (at : ℕ) → Avoids at []
avoids_none at = λ k d h. absurd (omega arith)

pub avoids_cons : (at x : ℕ) (xs : List ℕ) → at < x → Avoids at xs → Avoids at (x ∷ xs)
avoids_cons at x xs h a = All-cons (λ y. eqb y at ≡ false) x xs (apart x at h) a

pub avoids_append : (at : ℕ) (xs ys : List ℕ) → Avoids at xs → Avoids at ys → Avoids at (xs ++ ys)
avoids_append at xs ys a b = All-append (λ y. eqb y at ≡ false) xs ys a b

hex_digit_high : (at d : ℕ) → at < 48 → at < hex_digit d
hex_digit_high at d h = grind arith

hex_avoids : (at v : ℕ) → at < 48 → Avoids at (61 ∷ hex_text v)
hex_avoids at v h =
    avoids_cons at 61 (hex_text v) (omega arith)
    (avoids_cons at (hex_digit (v / 16)) (hex_digit (v % 16) ∷ []) (hex_digit_high at (v / 16) h)
    (avoids_cons at (hex_digit (v % 16)) [] (hex_digit_high at (v % 16) h) (avoids_none at)))

decimal_avoids : (at n : ℕ) → at < 48 → n < 2 ^ 64 → Avoids at (decimal n)
decimal_avoids at n low small = λ k d h. apart (get_or (decimal n) k d) at (omega (arith, decimal_digits n small k d h))

-- no item has a byte below the minus
pub item_avoids : (at : ℕ) → at < 45 → (i : BlockItem) → HasForm i → Avoids at (item_text i)
item_avoids at low (Set b v) h = avoids_append at (decimal b) (61 ∷ hex_text v) (decimal_avoids at b (omega arith) h.0) (hex_avoids at v (omega arith))
item_avoids at low (Free b) h = avoids_cons at 45 (decimal b) low (decimal_avoids at b (omega arith) h)

pub items_avoid : (at : ℕ) → at < 45 → (items : List BlockItem) → AreGoodItems items → AllByRecursion (Avoids at) (map item_text items)
items_avoid at low [] h = tt
items_avoid at low (i ∷ items) h = (item_avoids at low i (good_form i h.0), items_avoid at low items h.2)

-- ---- parts that are ended by a byte, and what follows them

pub split_ended : (at : ℕ) (xs : List (List ℕ)) (t : List ℕ) → AllByRecursion (Avoids at) xs → slice_split (λ b. eqb b at) (ended at xs ++ t) ≡ xs ++ slice_split (λ b. eqb b at) t
split_ended at [] t h = refl
split_ended at (x ∷ xs) t h =
    ap (slice_split (λ b. eqb b at)) (append_assoc x (at ∷ ended at xs) t)
    ∙ slice_split_at (λ b. eqb b at) x at (ended at xs ++ t) h.0 (eq-eqb at at refl) ∙ ap (λ l. x ∷ l) (split_ended at xs t h.1)

-- a text has a part
pub split_some : (p : ℕ → Bool) (text : List ℕ) → slice_split p text ≡ [] → ⊥
split_some p text e = let n : length (slice_split p text) ≡ 0 = ap length e in omega (arith, length-slice_split p text)

avoids_plain : (at : ℕ) (part : List ℕ) → All (λ b. b ≢ at) part → Avoids at part
avoids_plain at part plain = λ k d h. ne_eqb (get_or part k d) at (plain k d h)

plain_avoids : (at : ℕ) (part : List ℕ) → Avoids at part → All (λ b. b ≢ at) part
plain_avoids at part avoids = λ k d h. eqb-false (get_or part k d) at (avoids k d h)

-- the parts of a text after those that are ended
pub split_part :
    (at : ℕ) (text : List ℕ) (xs : List (List ℕ)) (part : List ℕ) → AllByRecursion (Avoids at) xs → IsPart at text (ended at xs) part
    → (rest : List (List ℕ)) × (slice_split (λ b. eqb b at) text ≡ xs ++ part ∷ rest) × (rest ≡ [] → text ≡ ended at xs ++ part)
split_part at text xs part avoid is =
    let avoids = avoids_plain at part is.plain in
    elim is.stands [
      | inl e ↦ ([], ap (slice_split (λ b. eqb b at)) e ∙ split_ended at xs part avoid ∙ ap (λ l. xs ++ l) (slice_split_none (λ b. eqb b at) part avoids), λ none. e)
      | inr e ↦ (
        slice_split (λ b. eqb b at) is.rest,
        ap (slice_split (λ b. eqb b at)) e ∙ split_ended at xs (part ++ at ∷ is.rest) avoid
            ∙ ap (λ l. xs ++ l) (slice_split_at (λ b. eqb b at) part at is.rest avoids (eq-eqb at at refl)),
        λ none. absurd (split_some (λ b. eqb b at) is.rest none),
      )
    ]

onto_avoids : (at b : ℕ) (parts : List (List ℕ)) → eqb b at ≡ false → AllByRecursion (Avoids at) parts → AllByRecursion (Avoids at) (onto_first b parts)
onto_avoids at b [] bad h = (All-cons (λ y. eqb y at ≡ false) b [] bad (avoids_none at), tt)
onto_avoids at b (part ∷ parts) bad h = (All-cons (λ y. eqb y at ≡ false) b part bad h.0, h.1)

step_avoids : (at b : ℕ) (parts : List (List ℕ)) (t : Bool) → eqb b at ≡ t → AllByRecursion (Avoids at) parts → AllByRecursion (Avoids at) (cond t ([] ∷ parts) (onto_first b parts))
step_avoids at b parts true e h = (avoids_none at, h)
step_avoids at b parts false e h = onto_avoids at b parts e h

split_avoids : (at : ℕ) (text : List ℕ) → AllByRecursion (Avoids at) (slice_split (λ b. eqb b at) text)
split_avoids at [] = (avoids_none at, tt)
split_avoids at (b ∷ text) = step_avoids at b (slice_split (λ x. eqb x at) text) (eqb b at) refl (split_avoids at text)

part_of_all : {A : Type 0} (P : A → Type 0) (xs : List A) (x : A) (rest : List A) → AllByRecursion P (xs ++ x ∷ rest) → P x
part_of_all P [] x rest h = h.0
part_of_all P (y ∷ xs) x rest h = part_of_all P xs x rest h.1

join_ended : (at : ℕ) (xs : List (List ℕ)) (x : List ℕ) (rest : List (List ℕ)) → join_with_byte at (xs ++ x ∷ rest) ≡ ended at xs ++ join_with_byte at (x ∷ rest)
join_ended at [] x rest = refl
join_ended at (y ∷ []) x rest = sym (append_assoc y (at ∷ []) (join_with_byte at (x ∷ rest)))
join_ended at (y ∷ z ∷ xs) x rest =
    ap (λ t. y ++ at ∷ t) (join_ended at (z ∷ xs) x rest) ∙ sym (append_assoc y (at ∷ ended at (z ∷ xs)) (join_with_byte at (x ∷ rest)))

part_here : (at : ℕ) (text front part : List ℕ) (rest : List (List ℕ)) → Avoids at part → text ≡ front ++ join_with_byte at (part ∷ rest) → IsPart at text front part
part_here at text front part [] avoids e = record { rest = []; stands = inl e; plain = plain_avoids at part avoids }
part_here at text front part (x ∷ rest) avoids e = record { rest = join_with_byte at (x ∷ rest); stands = inr e; plain = plain_avoids at part avoids }

-- where a text is cut into parts, each is its part after those before it
pub part_of_split :
    (at : ℕ) (text : List ℕ) (xs : List (List ℕ)) (part : List ℕ) (rest : List (List ℕ)) → slice_split (λ b. eqb b at) text ≡ xs ++ part ∷ rest
    → IsPart at text (ended at xs) part
part_of_split at text xs part rest e =
    part_here at text (ended at xs) part rest
    (part_of_all (Avoids at) xs part rest (subst (AllByRecursion (Avoids at)) e (split_avoids at text)))
    (sym (join_with_byte-slice_split at text) ∙ ap (join_with_byte at) e ∙ join_ended at xs part rest)

-- ---- the words of a line

-- parts that were joined are cut where they were joined
pub split_of_join : (at : ℕ) (x : List ℕ) (xs : List (List ℕ)) → Avoids at x → AllByRecursion (Avoids at) xs → slice_split (λ b. eqb b at) (join_with_byte at (x ∷ xs)) ≡ x ∷ xs
split_of_join at x [] a as' = slice_split_none (λ b. eqb b at) x a
split_of_join at x (y ∷ ys) a as' =
    slice_split_at (λ b. eqb b at) x at (join_with_byte at (y ∷ ys)) a (eq-eqb at at refl) ∙ ap (λ t. x ∷ t) (split_of_join at y ys as'.0 as'.1)

-- a line is its words, joined by spaces
join_words : (items : List BlockItem) → join_with_byte 32 (map item_text items) ≡ line_text items
join_words [] = refl
join_words (i ∷ []) = refl
join_words (i ∷ j ∷ items) = ap (λ t. item_text i ++ 32 ∷ t) (join_words (j ∷ items))

-- the words of a line are the texts of its items
pub words_of_line : (items : List BlockItem) → IsGoodLine items → slice_split (λ b. eqb b 32) (line_text items) ≡ map item_text items
words_of_line [] good = absurd good
words_of_line (i ∷ items) good =
    let a = items_avoid 32 (omega arith) (i ∷ items) good in
    ap (slice_split (λ b. eqb b 32)) (sym (join_words (i ∷ items))) ∙ split_of_join 32 (item_text i) (map item_text items) a.0 a.1

pub line_of_words : (text : List ℕ) (items : List BlockItem) → slice_split (λ b. eqb b 32) text ≡ map item_text items → text ≡ line_text items
line_of_words text items e = sym (join_with_byte-slice_split 32 text) ∙ ap (join_with_byte 32) e ∙ join_words items

pub line_is_good : (text : List ℕ) (items : List BlockItem) → slice_split (λ b. eqb b 32) text ≡ map item_text items → AreGoodItems items → IsGoodLine items
line_is_good text [] e good = split_some (λ b. eqb b 32) text e
line_is_good text (i ∷ items) e good = good

pub good_items : (items : List BlockItem) → IsGoodLine items → AreGoodItems items
good_items [] good = absurd good
good_items (i ∷ items) good = good
