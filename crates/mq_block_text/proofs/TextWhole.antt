-- Whole texts: their lines, where they end, and the places that they take.
use Rattle.std.proofs.Common.{◌≡◌, ◌≢◌, ℕ, Bool, true, false, eqb, cond, Option, Some, None, ◌+◌, ◌-◌, ◌<◌, ◌≤◌, ◌⊎◌, List, [], ◌∷◌, ◌++◌, length, sym, ◌∙◌, ap, subst, refl, inl, inr, arith, append_assoc, append-nil, length-append}
use Rattle.std.specs.Prelude.{map}
use Rattle.std.specs.List.{AllByRecursion, slice_split, join_with_byte, count_by}
use Rattle.std.proofs.lemmas.Bool.{eqb-false}
use Rattle.std.proofs.lemmas.List.{append_cancel_right}
use Rattle.std.proofs.lemmas.List.Recursion.{is_count_by}
use Rattle.std.proofs.lemmas.List.Splits.{join_with_byte-slice_split}
use Rattle.mq_block_text.specs.declared.item.BlockItem.{BlockItem}
use Rattle.mq_block_text.specs.declared.item.BlockItem.TheVariants.{Set, Free}
use Rattle.mq_block_text.specs.declared.refusal.BlockTextCause.{BlockTextCause}
use Rattle.mq_block_text.specs.Refusals.{ended, IsPart, RefusesLines, RefusesText}
use Rattle.mq_block_text.specs.Text.{item_text, line_text, text_of, EndsInItem, IsTextOf, AreGoodItems, IsGoodLine, AreGoodLines, IsGoodText, sets_in, places_of}
use Rattle.mq_block_text.proofs.TextFirst.{EndsLines, same_lines}
use Rattle.mq_block_text.proofs.TextItems.{good_form}
use Rattle.mq_block_text.proofs.TextParts.{Avoids, item_avoids, avoids_none, avoids_cons, avoids_append, split_ended, split_of_join, split_some, split_part, part_of_split, good_items}

-- ---- counts

abbrev pub is_set : BlockItem → Bool
is_set (Set b v) = true
is_set (Free b) = false

set_step : (i : BlockItem) (items : List BlockItem) → sets_in (i ∷ items) ≡ cond (is_set i) (1 + sets_in items) (sets_in items)
set_step (Set b v) items = refl
set_step (Free b) items = refl

pub sets_in_is : (items : List BlockItem) → sets_in items ≡ count_by is_set items
sets_in_is items = is_count_by sets_in is_set refl set_step items

pub places_append : (xs ys : List (List BlockItem)) → places_of (xs ++ ys) ≡ places_of xs + places_of ys
places_append [] ys = omega arith
places_append (x ∷ xs) ys = omega (arith, places_append xs ys)

-- each line takes a place
pub lines_few : (lines : List (List BlockItem)) → length lines ≤ places_of lines
lines_few [] = omega arith
lines_few (l ∷ lines) = omega (arith, lines_few lines)

pub good_lines_push : (lines : List (List BlockItem)) (l : List BlockItem) → AreGoodLines lines → IsGoodLine l → AreGoodLines (lines ++ l ∷ [])
good_lines_push [] l good h = (h, tt)
good_lines_push (m ∷ lines) l good h = (good.0, good_lines_push lines l good.1 h)

pub places_push : (lines : List (List BlockItem)) (l : List BlockItem) (room sets : ℕ) → places_of lines + room ≡ 1024 → sets ≡ sets_in l → sets < room → places_of (lines ++ l ∷ []) + (room - (sets + 1)) ≡ 1024
places_push lines l room sets h e lt = omega (arith, places_append lines (l ∷ []))

-- a line for which no room is left passes the area
pub no_room : (lines : List (List BlockItem)) (l : List BlockItem) (room sets : ℕ) → places_of lines + room ≡ 1024 → sets ≡ sets_in l → room ≤ sets → 1024 < places_of (lines ++ l ∷ [])
no_room lines l room sets h e le = omega (arith, places_append lines (l ∷ []))

-- ---- where texts are cut

line_avoids : (items : List BlockItem) → AreGoodItems items → Avoids 10 (line_text items)
line_avoids [] h = avoids_none 10
line_avoids (i ∷ []) h = item_avoids 10 (omega arith) i (good_form i h.0)
line_avoids (i ∷ j ∷ items) h =
    avoids_append 10 (item_text i) (32 ∷ line_text (j ∷ items)) (item_avoids 10 (omega arith) i (good_form i h.0))
    (avoids_cons 10 32 (line_text (j ∷ items)) (omega arith) (line_avoids (j ∷ items) h.2))

lines_avoid : (lines : List (List BlockItem)) → AreGoodLines lines → AllByRecursion (Avoids 10) (map line_text lines)
lines_avoid [] h = tt
lines_avoid (l ∷ lines) h = (line_avoids l (good_items l h.0), lines_avoid lines h.1)

-- a text is its lines, each ended by a line feed
text_ended : (lines : List (List BlockItem)) → text_of lines ≡ ended 10 (map line_text lines)
text_ended [] = refl
text_ended (l ∷ lines) = ap (λ t. line_text l ++ 10 ∷ t) (text_ended lines)

-- a text is its lines, joined by line feeds, and one more line feed
join_lines : (l : List BlockItem) (lines : List (List BlockItem)) → text_of (l ∷ lines) ≡ join_with_byte 10 (map line_text (l ∷ lines)) ++ 10 ∷ []
join_lines l [] = refl
join_lines l (m ∷ lines) =
    ap (λ t. line_text l ++ 10 ∷ t) (join_lines m lines)
    ∙ sym (append_assoc (line_text l) (10 ∷ join_with_byte 10 (map line_text (m ∷ lines))) (10 ∷ []))

split_lines : (l : List BlockItem) (lines : List (List BlockItem)) → AreGoodLines (l ∷ lines) → slice_split (λ b. eqb b 10) (join_with_byte 10 (map line_text (l ∷ lines))) ≡ map line_text (l ∷ lines)
split_lines l lines h = let a = lines_avoid (l ∷ lines) h in split_of_join 10 (line_text l) (map line_text lines) a.0 a.1

-- ---- two readings of a text are one

-- the bytes are cut into the texts of the lines and what ends them
abbrev Cut : List ℕ → List (List BlockItem) → Option BlockTextCause → Type 0
Cut bytes lines cause = (rest : List (List ℕ)) × (slice_split (λ b. eqb b 10) bytes ≡ map line_text lines ++ rest) × EndsLines lines rest cause

good_cut : (bytes : List ℕ) (lines : List (List BlockItem)) → IsTextOf bytes lines → IsGoodText lines → Cut bytes lines None
good_cut bytes lines (inl e) good = (
  [] ∷ [],
  ap (slice_split (λ b. eqb b 10)) (e ∙ text_ended lines ∙ sym (append-nil (ended 10 (map line_text lines)))) ∙ split_ended 10 (map line_text lines) [] (lines_avoid lines good.0),
  (refl, refl),
)
good_cut bytes [] (inr e) good = absurd e.1
good_cut bytes (l ∷ lines) (inr e) good =
    let same : bytes ≡ join_with_byte 10 (map line_text (l ∷ lines)) = append_cancel_right bytes (join_with_byte 10 (map line_text (l ∷ lines))) (10 ∷ []) (e.0 ∙ join_lines l lines) in
    ([], ap (slice_split (λ b. eqb b 10)) same ∙ split_lines l lines good.0 ∙ sym (append-nil (map line_text (l ∷ lines))), tt)

refused_cut : (bytes : List ℕ) (number : ℕ) (cause : BlockTextCause) (bad : RefusesText bytes number cause) → Cut bytes bad.before (Some cause)
refused_cut bytes number cause bad =
    let part : IsPart 10 bytes (ended 10 (map line_text bad.before)) bad.text = subst (λ (t : List ℕ). IsPart 10 bytes t bad.text) (text_ended bad.before) bad.part in
    let cut = split_part 10 bytes (map line_text bad.before) bad.text (lines_avoid bad.before bad.good.0) part in (
      bad.text ∷ cut.0,
      cut.1,
      (λ empty last. bad.there (cut.2 last ∙ ap (λ (t : List ℕ). ended 10 (map line_text bad.before) ++ t) empty ∙ append-nil (ended 10 (map line_text bad.before)) ∙ sym (text_ended bad.before)), bad.refused),
    )

cut_same : (bytes : List ℕ) (xs ys : List (List BlockItem)) (c d : Option BlockTextCause) → IsGoodText xs → IsGoodText ys → Cut bytes xs c → Cut bytes ys d → (xs ≡ ys) × (c ≡ d)
cut_same bytes xs ys c d p q a b = same_lines xs ys a.0 b.0 c d p q a.2 b.2 (sym a.1 ∙ b.1)

-- bytes spell at most one good text
pub one_text : (bytes : List ℕ) (xs ys : List (List BlockItem)) → IsTextOf bytes xs → IsTextOf bytes ys → IsGoodText xs → IsGoodText ys → xs ≡ ys
one_text bytes xs ys a b p q = (cut_same bytes xs ys None None p q (good_cut bytes xs a p) (good_cut bytes ys b q)).0

-- bytes that spell a good text are not refused
pub good_or_refused : (bytes : List ℕ) (lines : List (List BlockItem)) (number : ℕ) (cause : BlockTextCause) → IsTextOf bytes lines → IsGoodText lines → RefusesText bytes number cause → ⊥
good_or_refused bytes lines number cause a good bad =
    let none : ◌≡◌ {A = Option BlockTextCause} None (Some cause) = (cut_same bytes lines bad.before None (Some cause) good bad.good (good_cut bytes lines a good) (refused_cut bytes number cause bad)).1 in
    cc

-- bytes are refused at one line, for one cause
pub one_refusal : (bytes : List ℕ) (m n : ℕ) (c d : BlockTextCause) → RefusesText bytes m c → RefusesText bytes n d → (m ≡ n) × (c ≡ d)
one_refusal bytes m n c d p q =
    let same = cut_same bytes p.before q.before (Some c) (Some d) p.good q.good (refused_cut bytes m c p) (refused_cut bytes n d q) in
    let lines : length p.before ≡ length q.before = ap length same.0 in
    let cause : ◌≡◌ {A = Option BlockTextCause} (Some c) (Some d) = same.1 in
    (p.counted ∙ ap (λ (k : ℕ). k + 1) lines ∙ sym q.counted, (cc))

-- ---- the body of a text: what is left without the line feed at its end

abbrev pub IsBody : List ℕ → List ℕ → Type 0
IsBody bytes body = (bytes ≡ body ++ 10 ∷ []) ⊎ ((bytes ≡ body) × ((front : List ℕ) → bytes ≡ front ++ 10 ∷ [] → ⊥))

ends_in_item : (l : List BlockItem) (lines : List (List BlockItem)) → AreGoodLines (l ∷ lines) → EndsInItem (l ∷ lines)
ends_in_item [] lines h = absurd h.0
ends_in_item (i ∷ items) [] h = tt
ends_in_item (i ∷ items) (m ∷ lines) h = ends_in_item m lines h.1

joined :
    (bytes body : List ℕ) (l : List BlockItem) (lines : List (List BlockItem)) → IsBody bytes body → AreGoodLines (l ∷ lines)
    → body ≡ join_with_byte 10 (map line_text (l ∷ lines)) → IsTextOf bytes (l ∷ lines)
joined bytes body l lines (inl b) h e = inl (b ∙ ap (λ t. t ++ 10 ∷ []) e ∙ sym (join_lines l lines))
joined bytes body l lines (inr b) h e = inr (ap (λ t. t ++ 10 ∷ []) (b.0 ∙ e) ∙ sym (join_lines l lines), ends_in_item l lines h)

-- what is cut into the texts of lines is the text of them
pub text_of_lines :
    (bytes body : List ℕ) (lines : List (List BlockItem)) → IsBody bytes body → AreGoodLines lines
    → slice_split (λ b. eqb b 10) body ≡ map line_text lines → IsTextOf bytes lines
text_of_lines bytes body [] b h e = absurd (split_some (λ b. eqb b 10) body e)
text_of_lines bytes body (l ∷ lines) b h e = joined bytes body l lines b h (sym (join_with_byte-slice_split 10 body) ∙ ap (join_with_byte 10) e)

-- a part of the body is one of the text
pub body_part : (bytes body front part : List ℕ) → IsBody bytes body → IsPart 10 body front part → IsPart 10 bytes front part
body_part bytes body front part (inr b) is = record {
  rest = is.rest;
  stands = elim is.stands [ inl e ↦ inl (b.0 ∙ e) | inr e ↦ inr (b.0 ∙ e) ];
  plain = is.plain;
}
body_part bytes body front part (inl b) is = elim is.stands [
  | inl e ↦ record {
    rest = [];
    stands = inr (b ∙ ap (λ t. t ++ 10 ∷ []) e ∙ append_assoc front part (10 ∷ []));
    plain = is.plain;
  }
  | inr e ↦ record {
    rest = is.rest ++ 10 ∷ [];
    stands =
        inr (b ∙ ap (λ t. t ++ 10 ∷ []) e ∙ append_assoc front (part ++ 10 ∷ is.rest) (10 ∷ [])
        ∙ ap (λ t. front ++ t) (append_assoc part (10 ∷ is.rest) (10 ∷ [])));
    plain = is.plain;
  }
]

longer : (front part : List ℕ) (rest : List ℕ) → length front ≤ length (front ++ (part ++ rest))
longer front part rest = omega (arith, length-append front (part ++ rest))

-- A part of the body is there: what stands before it is the text of some lines.
pub body_there :
    {L : Type 0} (text_of : List L → List ℕ) (line_text : L → List ℕ) → text_of [] ≡ []
    → ((l : L) (ls : List L) → text_of (l ∷ ls) ≡ join_with_byte 10 (map line_text (l ∷ ls)) ++ 10 ∷ [])
    → (bytes body : List ℕ) (before : List L) (part : List ℕ) → IsBody bytes body → 0 < length bytes → IsPart 10 body (text_of before) part → bytes ≢ text_of before
body_there text_of line_text none join bytes body before part (inl b) some is same =
    let whole : length (text_of before) ≡ length body + 1 = ap length (sym same ∙ b) ∙ length-append body (10 ∷ []) in
    elim is.stands [
      | inl e ↦ (let long : length body ≡ length (text_of before) + length part = ap length e ∙ length-append (text_of before) part in omega arith)
      | inr e ↦ (let long : length body ≡ length (text_of before) + length (part ++ 10 ∷ is.rest) = ap length e ∙ length-append (text_of before) (part ++ 10 ∷ is.rest) in omega arith)
    ]
body_there text_of line_text none join bytes body [] part (inr b) some is same = let short : length bytes ≡ 0 = ap length (same ∙ none) in omega arith
body_there text_of line_text none join bytes body (l ∷ before) part (inr b) some is same = b.1 (join_with_byte 10 (map line_text (l ∷ before))) (same ∙ join l before)

-- what is refused of the lines of the body is refused of the text
pub refused_of_lines :
    (bytes body : List ℕ) (number : ℕ) (cause : BlockTextCause) → IsBody bytes body → 0 < length bytes → RefusesLines (slice_split (λ b. eqb b 10) body) number cause
    → RefusesText bytes number cause
refused_of_lines bytes body number cause b some bad =
    let part : IsPart 10 body (text_of bad.before) bad.text =
    subst (λ (t : List ℕ). IsPart 10 body t bad.text) (sym (text_ended bad.before)) (part_of_split 10 body (map line_text bad.before) bad.text bad.rest bad.are) in
    record {
      before = bad.before;
      text = bad.text;
      good = bad.good;
      part = body_part bytes body (text_of bad.before) bad.text b part;
      there = body_there text_of line_text refl join_lines bytes body bad.before bad.text b some part;
      counted = bad.counted;
      refused = bad.refused;
    }

pub some_byte : (bytes : List ℕ) (b : Bool) → b ≡ eqb (length bytes) 0 → b ≡ false → 0 < length bytes
some_byte bytes b e f = let n : length bytes ≢ 0 = eqb-false (length bytes) 0 (sym e ∙ f) in omega arith
