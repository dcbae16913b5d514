-- Whole texts: their lines, where they end, and that two readings of one text are one.
use Rattle.std.proofs.Common.{◌≡◌, ◌≢◌, ℕ, Bool, true, false, eqb, ◌+◌, ◌<◌, List, [], ◌∷◌, ◌++◌, length, map, sym, ◌∙◌, ap, subst, refl, inl, inr, arith, append_assoc, append-nil, length-append}
use Rattle.std.specs.Prelude.{Result, Ok, Err, IfOk, IfErr, MatchResult}
use Rattle.std.specs.List.{slice_split, join_with_byte}
use Rattle.std.proofs.lemmas.Bool.{false≢true}
use Rattle.std.proofs.lemmas.List.{append_cancel_right}
use Rattle.std.proofs.lemmas.List.Splits.{join_with_byte-slice_split}
use Rattle.mq_block_text.specs.Refusals.{ended, IsPart}
use Rattle.mq_block_text.proofs.TextFirst.{AreGoodAfter, same_first}
use Rattle.mq_block_text.proofs.TextParts.{part_of_split, split_ended, split_of_join, split_part, split_some}
use Rattle.mq_block_text.proofs.TextWhole.{IsBody, body_part, body_there}
use Rattle.mq_loose_text.specs.Text.{IsGoodText, IsLooseText, IsRefusal, IsRefused, IsTextOf, RefusesLines, RefusesText, line_text, text_of}
use Rattle.mq_loose_text.specs.declared.line.LooseLine.{LooseLine}
use Rattle.mq_loose_text.specs.declared.refusal.LooseTextRefusal.{LooseTextRefusal}
use Rattle.mq_loose_text.specs.declared.refusal.LooseTextRefusal.TheVariants.{Line, OutOfMemory}
use Rattle.mq_loose_text.proofs.LooseLines.{good_front, good_last, line_injective, line_some, lines_avoid}

-- ---- two readings of one list of lines are one

abbrev pub IsGoodNext : List LooseLine → LooseLine → Type 0
IsGoodNext before l = IsGoodText (before ++ l ∷ [])

abbrev pub IsRefusedNext : List LooseLine → List ℕ → Type 0
IsRefusedNext before text = (l : LooseLine) → text ≡ line_text l → IsGoodText (before ++ l ∷ []) → ⊥

-- the end of the text, with a line feed before it or not, or a line that is refused
abbrev pub EndsLines : List LooseLine → List (List ℕ) → (refused : Bool) → Type 0
EndsLines before [] false = Unit {0}
EndsLines before [] true = ⊥
EndsLines before (text ∷ rest) false = (text ≡ []) × (rest ≡ [])
EndsLines before (text ∷ rest) true = (text ≡ [] → rest ≡ [] → ⊥) × IsRefusedNext before text

next_injective : (before : List LooseLine) (l m : LooseLine) → IsGoodNext before l → IsGoodNext before m → line_text l ≡ line_text m → l ≡ m
next_injective before l m p q e = line_injective l m (good_last before l p) (good_last before m q) e

next_apart : (before : List LooseLine) (l : LooseLine) (rest : List (List ℕ)) (refused : Bool) → IsGoodNext before l → EndsLines before (line_text l ∷ rest) refused → ⊥
next_apart before l rest false good ends = line_some l (good_last before l good) ends.0
next_apart before l rest true good ends = ends.1 l refl good

next_same : (before : List LooseLine) (rest : List (List ℕ)) (c d : Bool) → EndsLines before rest c → EndsLines before rest d → c ≡ d
next_same before [] false false p q = refl
next_same before [] false true p q = absurd q
next_same before [] true d p q = absurd p
next_same before (text ∷ rest) false false p q = refl
next_same before (text ∷ rest) false true p q = absurd (q.0 p.0 p.1)
next_same before (text ∷ rest) true false p q = absurd (p.0 q.0 q.1)
next_same before (text ∷ rest) true true p q = refl

good_nexts : (before lines : List LooseLine) → IsGoodText (before ++ lines) → AreGoodAfter IsGoodNext before lines
good_nexts before [] good = tt
good_nexts before (l ∷ lines) good =
    let along : IsGoodText ((before ++ l ∷ []) ++ lines) = subst IsGoodText (sym (append_assoc before (l ∷ []) lines)) good in
    (good_front (before ++ l ∷ []) lines along, good_nexts (before ++ l ∷ []) lines along)

same_lines :
    (xs ys : List LooseLine) (r s : List (List ℕ)) (c d : Bool) → IsGoodText xs → IsGoodText ys → EndsLines xs r c → EndsLines ys s d
    → map line_text xs ++ r ≡ map line_text ys ++ s → (xs ≡ ys) × (c ≡ d)
same_lines xs ys r s c d p q a b e =
    same_first line_text IsGoodNext EndsLines next_injective next_apart next_same [] xs ys r s c d (good_nexts [] xs p) (good_nexts [] ys q) a b e

-- ---- where texts are cut

text_ended : (lines : List LooseLine) → text_of lines ≡ ended 10 (map line_text lines)
text_ended [] = refl
text_ended (l ∷ lines) = ap (λ t. line_text l ++ 10 ∷ t) (text_ended lines)

join_lines : (l : LooseLine) (lines : List LooseLine) → text_of (l ∷ lines) ≡ join_with_byte 10 (map line_text (l ∷ lines)) ++ 10 ∷ []
join_lines l [] = refl
join_lines l (m ∷ lines) =
    ap (λ t. line_text l ++ 10 ∷ t) (join_lines m lines)
    ∙ sym (append_assoc (line_text l) (10 ∷ join_with_byte 10 (map line_text (m ∷ lines))) (10 ∷ []))

split_lines : (l : LooseLine) (lines : List LooseLine) → IsGoodText (l ∷ lines) → slice_split (λ b. eqb b 10) (join_with_byte 10 (map line_text (l ∷ lines))) ≡ map line_text (l ∷ lines)
split_lines l lines h = let a = lines_avoid (l ∷ lines) h.good in split_of_join 10 (line_text l) (map line_text lines) a.0 a.1

-- the bytes are cut into the texts of the lines and what ends them
abbrev Cut : List ℕ → List LooseLine → Bool → Type 0
Cut bytes lines refused = (rest : List (List ℕ)) × (slice_split (λ b. eqb b 10) bytes ≡ map line_text lines ++ rest) × EndsLines lines rest refused

good_cut : (bytes : List ℕ) (lines : List LooseLine) → IsTextOf bytes lines → IsGoodText lines → Cut bytes lines false
good_cut bytes lines (inl e) good = (
  [] ∷ [],
  ap (slice_split (λ b. eqb b 10)) (e ∙ text_ended lines ∙ sym (append-nil (ended 10 (map line_text lines)))) ∙ split_ended 10 (map line_text lines) [] (lines_avoid lines good.good),
  (refl, refl),
)
good_cut bytes [] (inr e) good = absurd (e.1 refl)
good_cut bytes (l ∷ lines) (inr e) good =
    let same : bytes ≡ join_with_byte 10 (map line_text (l ∷ lines)) = append_cancel_right bytes (join_with_byte 10 (map line_text (l ∷ lines))) (10 ∷ []) (e.0 ∙ join_lines l lines) in
    ([], ap (slice_split (λ b. eqb b 10)) same ∙ split_lines l lines good ∙ sym (append-nil (map line_text (l ∷ lines))), tt)

refused_cut : (bytes : List ℕ) (number : ℕ) (bad : RefusesText bytes number) → Cut bytes bad.before true
refused_cut bytes number bad =
    let part : IsPart 10 bytes (ended 10 (map line_text bad.before)) bad.text = subst (λ (t : List ℕ). IsPart 10 bytes t bad.text) (text_ended bad.before) bad.part in
    let cut = split_part 10 bytes (map line_text bad.before) bad.text (lines_avoid bad.before bad.good.good) part in (
      bad.text ∷ cut.0,
      cut.1,
      (λ empty last. bad.there (cut.2 last ∙ ap (λ (t : List ℕ). ended 10 (map line_text bad.before) ++ t) empty ∙ append-nil (ended 10 (map line_text bad.before)) ∙ sym (text_ended bad.before)), bad.refused),
    )

cut_same : (bytes : List ℕ) (xs ys : List LooseLine) (c d : Bool) → IsGoodText xs → IsGoodText ys → Cut bytes xs c → Cut bytes ys d → (xs ≡ ys) × (c ≡ d)
cut_same bytes xs ys c d p q a b = same_lines xs ys a.0 b.0 c d p q a.2 b.2 (sym a.1 ∙ b.1)

-- bytes spell at most one good text
pub one_text : (bytes : List ℕ) (xs ys : List LooseLine) → IsLooseText bytes xs → IsLooseText bytes ys → xs ≡ ys
one_text bytes xs ys p q = (cut_same bytes xs ys false false p.good q.good (good_cut bytes xs p.spelled p.good) (good_cut bytes ys q.spelled q.good)).0

-- bytes that spell a good text are not refused
pub good_or_refused : (bytes : List ℕ) (lines : List LooseLine) (number : ℕ) → IsLooseText bytes lines → RefusesText bytes number → ⊥
good_or_refused bytes lines number is bad =
    false≢true (cut_same bytes lines bad.before false true is.good bad.good (good_cut bytes lines is.spelled is.good) (refused_cut bytes number bad)).1

-- bytes are refused at one line
pub one_refusal : (bytes : List ℕ) (m n : ℕ) → RefusesText bytes m → RefusesText bytes n → m ≡ n
one_refusal bytes m n p q =
    let lines : length p.before ≡ length q.before = ap length (cut_same bytes p.before q.before true true p.good q.good (refused_cut bytes m p) (refused_cut bytes n q)).0 in
    p.counted ∙ ap (λ (k : ℕ). k + 1) lines ∙ sym q.counted

-- ---- the body of a text: what is left without the line feed at its end

joined : (bytes body : List ℕ) (l : LooseLine) (lines : List LooseLine) → IsBody bytes body → body ≡ join_with_byte 10 (map line_text (l ∷ lines)) → IsTextOf bytes (l ∷ lines)
joined bytes body l lines (inl b) e = inl (b ∙ ap (λ t. t ++ 10 ∷ []) e ∙ sym (join_lines l lines))
joined bytes body l lines (inr b) e =
    inr (ap (λ t. t ++ 10 ∷ []) (b.0 ∙ e) ∙ sym (join_lines l lines), λ none. (let long : length (l ∷ lines) ≡ 0 = ap length none in omega arith))

-- what is cut into the texts of lines is the text of them
pub text_of_lines : (bytes body : List ℕ) (lines : List LooseLine) → IsBody bytes body → slice_split (λ b. eqb b 10) body ≡ map line_text lines → IsTextOf bytes lines
text_of_lines bytes body [] b e = absurd (split_some (λ b. eqb b 10) body e)
text_of_lines bytes body (l ∷ lines) b e = joined bytes body l lines b (sym (join_with_byte-slice_split 10 body) ∙ ap (join_with_byte 10) e)

-- what is refused of the lines of the body is refused of the text
pub refused_of_lines : (bytes body : List ℕ) (number : ℕ) → IsBody bytes body → 0 < length bytes → RefusesLines (slice_split (λ b. eqb b 10) body) number → RefusesText bytes number
refused_of_lines bytes body number b some bad =
    let part : IsPart 10 body (text_of bad.before) bad.text =
    subst (λ (t : List ℕ). IsPart 10 body t bad.text) (sym (text_ended bad.before)) (part_of_split 10 body (map line_text bad.before) bad.text bad.rest bad.are) in
    record {
      before = bad.before;
      text = bad.text;
      good = bad.good;
      part = body_part bytes body (text_of bad.before) bad.text b part;
      there = body_there text_of line_text refl join_lines bytes body bad.before bad.text b some part;
      counted = bad.counted;
      refused = bad.refused;
    }

-- ---- answers

-- what a refusal says, in a weaker form
pub refused_more : (P Q : ℕ → Type 0) → ((line : ℕ) → P line → Q line) → (e : LooseTextRefusal) → IsRefused P e → IsRefused Q e
refused_more P Q f (Line line) bad = f line bad
refused_more P Q f OutOfMemory bad = tt

module _ (bytes : List ℕ) where
  abbrev pub Answer : Type 0
  Answer = Result (List LooseLine) LooseTextRefusal

  pub exact_of : (r : Answer) → IfOk r (λ t. IsLooseText bytes t) → IfErr r (IsRefused (RefusesText bytes)) → (line : ℕ) → RefusesText bytes line → IsRefusal r line
  exact_of (Ok t) ok bad line is = good_or_refused bytes t line ok is
  exact_of (Err (Line l)) ok bad line is = let same = one_refusal bytes l line bad is in inl (ap Line same)
  exact_of (Err OutOfMemory) ok bad line is = inr refl

  pub only_of : (r : Answer) → IfOk r (λ t. IsLooseText bytes t) → IfErr r (IsRefused (RefusesText bytes)) → (lines : List LooseLine) → IsLooseText bytes lines → MatchResult r (λ t. t ≡ lines) (λ e. e ≡ OutOfMemory)
  only_of (Ok t) ok bad lines is = one_text bytes t lines ok is
  only_of (Err (Line l)) ok bad lines is = absurd (good_or_refused bytes lines l is bad)
  only_of (Err OutOfMemory) ok bad lines is = refl
