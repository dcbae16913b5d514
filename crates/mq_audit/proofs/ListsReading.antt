-- Lists of words, read one after another.
use Rattle.std.proofs.Common.{◌≡◌, ℕ, suc, Bool, true, false, eqb, leb, ltb, cond, replicate, Option, Some, None, ◌+◌, ◌-◌, ◌<◌, ◌≤◌, List, [], ◌∷◌, ◌++◌, length, get_or, map, take, drop, zero, append-nil, sym, ◌∙◌, ap, refl, arith, append_assoc, drop-cons}
use Rattle.std.specs.Option.{option_map}
use Rattle.std.specs.Prelude.{bytes_eq}
use Rattle.std.proofs.lemmas.Bool.{le-leb, lt-leb, ltb-true}
use Rattle.std.proofs.lemmas.Option.{same_Some}
use Rattle.mq_block_text.specs.Words.{byte_in, number_in}
use Rattle.mq_blocks.specs.Geometry.{homes_of}
use Rattle.mq_blocks.specs.declared.geometry.Geometry.{Geometry}
use Rattle.mq_audit.specs.Answers.{and_then}
use Rattle.mq_audit.specs.Lists.{rising_in, content_in, sets_in, cut_by}
use Rattle.mq_audit.specs.Words.{below, block_in, both, ended_by, set_in}

-- these stand before those that are read of the rest
abbrev pub before : {A : Type 0} → List A → Option (List A) → Option (List A)
before xs more = option_map (λ ys. xs ++ ys) more

before_more : {A : Type 0} (xs : List A) (x : A) (more : Option (List A)) → before xs (option_map (λ ys. x ∷ ys) more) ≡ before (xs ++ x ∷ []) more
before_more xs x None = refl
before_more xs x (Some ys) = ap Some (sym (append_assoc xs (x ∷ []) ys))

pub before_none : {A : Type 0} (more : Option (List A)) → more ≡ before [] more
before_none None = refl
before_none (Some ys) = refl

rising_step : {A : Type 0} (key : A → ℕ) (read : List ℕ → Option A) (low : ℕ) (w : List ℕ) (ws : List (List ℕ)) (x : A) → read w ≡ Some x → low ≤ key x
    → rising_in key read low (w ∷ ws) ≡ option_map (λ ys. x ∷ ys) (rising_in key read (key x + 1) ws)
rising_step {A} key read low w ws x is rises =
    ap (λ o. and_then o (λ y. cond (leb low (key y)) (option_map (λ ys. y ∷ ys) (rising_in key read (key y + 1) ws)) None)) is
    ∙ ap (λ (t : Bool). cond t (option_map (λ ys. x ∷ ys) (rising_in key read (key x + 1) ws)) None) (le-leb low (key x) rises)

rising_misread : {A : Type 0} (key : A → ℕ) (read : List ℕ → Option A) (low : ℕ) (w : List ℕ) (ws : List (List ℕ)) → read w ≡ None → rising_in key read low (w ∷ ws) ≡ None
rising_misread key read low w ws is = ap (λ o. and_then o (λ y. cond (leb low (key y)) (option_map (λ ys. y ∷ ys) (rising_in key read (key y + 1) ws)) None)) is

rising_falls : {A : Type 0} (key : A → ℕ) (read : List ℕ → Option A) (low : ℕ) (w : List ℕ) (ws : List (List ℕ)) (x : A) → read w ≡ Some x → key x < low → rising_in key read low (w ∷ ws) ≡ None
rising_falls key read low w ws x is falls =
    ap (λ o. and_then o (λ y. cond (leb low (key y)) (option_map (λ ys. y ∷ ys) (rising_in key read (key y + 1) ws)) None)) is
    ∙ ap (λ (t : Bool). cond t (option_map (λ ys. x ∷ ys) (rising_in key read (key x + 1) ws)) None) (lt-leb low (key x) falls)

-- ---- in a loop over parts of a text

module _ {A : Type 0} {B : Type 0} (key : A → ℕ) (read : List ℕ → Option A) (text : B → List ℕ) (all : Option (List A)) (words : List B) (d : B) (i : ℕ) (inside : i < length words) (low : ℕ) (xs : List A) (so_far : all ≡ before xs (rising_in key read low (map text (drop i words)))) where
  rest : map text (drop i words) ≡ text (get_or words i d) ∷ map text (drop (i + 1) words)
  rest = (let e : suc i ≡ i + 1 = omega arith in ap (map text) (drop-cons words i d inside) ∙ ap (λ (n : ℕ). text (get_or words i d) ∷ map text (drop n words)) e)

  pub read_more : (x : A) → read (text (get_or words i d)) ≡ Some x → low ≤ key x → all ≡ before (xs ++ x ∷ []) (rising_in key read (key x + 1) (map text (drop (i + 1) words)))
  read_more x is rises = so_far ∙ ap (λ ws. before xs (rising_in key read low ws)) rest ∙ ap (before xs) (rising_step key read low _ _ x is rises) ∙ before_more xs x _

  pub read_none : read (text (get_or words i d)) ≡ None → all ≡ None
  read_none is = so_far ∙ ap (λ ws. before xs (rising_in key read low ws)) rest ∙ ap (before xs) (rising_misread key read low _ _ is)

  pub read_falls : (x : A) → read (text (get_or words i d)) ≡ Some x → key x < low → all ≡ None
  read_falls x is falls = so_far ∙ ap (λ ws. before xs (rising_in key read low ws)) rest ∙ ap (before xs) (rising_falls key read low _ _ x is falls)

-- ---- where a word first stands

abbrev pub put_before : List (List ℕ) → Option (List (List ℕ) × List (List ℕ)) → Option (List (List ℕ) × List (List ℕ))
put_before ws more = option_map (λ parts. (ws ++ parts.0, parts.1)) more

map_take_more : {B : Type 0} (text : B → List ℕ) (words : List B) (i : ℕ) (d : B) → i < length words → map text (take i words) ++ text (get_or words i d) ∷ [] ≡ map text (take (i + 1) words)
map_take_more text [] i d inside = absurd (omega arith)
map_take_more text (w ∷ words) zero d inside = refl
map_take_more text (w ∷ words) (suc i) d inside =
    let e : suc (i + 1) ≡ suc i + 1 = omega arith in
    ap (λ (l : List (List ℕ)). text w ∷ l) (map_take_more text words i d (omega (arith, inside))) ∙ ap (λ (n : ℕ). map text (take n (w ∷ words))) e

drop_past : {B : Type 0} (words : List B) (i : ℕ) → length words ≤ i → drop i words ≡ []
drop_past [] zero past = refl
drop_past [] (suc i) past = refl
drop_past (w ∷ words) zero past = absurd (omega arith)
drop_past (w ∷ words) (suc i) past = drop_past words i (omega (arith, past))

pub cut_none : {B : Type 0} (text : B → List ℕ) (word : List ℕ) (all : Option (List (List ℕ) × List (List ℕ))) (words : List B) (i : ℕ) → length words ≤ i → all ≡ put_before (map text (take i words)) (cut_by word (map text (drop i words))) → all ≡ None
cut_none text word all words i past so_far = so_far ∙ ap (λ ws. put_before (map text (take i words)) (cut_by word (map text ws))) (drop_past words i past)

put_more : (ws : List (List ℕ)) (w : List ℕ) (more : Option (List (List ℕ) × List (List ℕ))) → put_before ws (option_map (λ parts. (w ∷ parts.0, parts.1)) more) ≡ put_before (ws ++ w ∷ []) more
put_more ws w None = refl
put_more ws w (Some parts) = ap (λ (l : List (List ℕ)). Some (l, parts.1)) (sym (append_assoc ws (w ∷ []) parts.0))

pub put_none : (more : Option (List (List ℕ) × List (List ℕ))) → more ≡ put_before [] more
put_none None = refl
put_none (Some parts) = refl

module _ {B : Type 0} (text : B → List ℕ) (word : List ℕ) (all : Option (List (List ℕ) × List (List ℕ))) (words : List B) (d : B) (i : ℕ) (inside : i < length words) (so_far : all ≡ put_before (map text (take i words)) (cut_by word (map text (drop i words)))) where
  tail : map text (drop i words) ≡ text (get_or words i d) ∷ map text (drop (i + 1) words)
  tail = (let e : suc i ≡ i + 1 = omega arith in ap (map text) (drop-cons words i d inside) ∙ ap (λ (n : ℕ). text (get_or words i d) ∷ map text (drop n words)) e)

  pub cut_here : bytes_eq (text (get_or words i d)) word ≡ true → all ≡ Some (map text (take i words), map text (drop (i + 1) words))
  cut_here is =
      so_far ∙ ap (λ ws. put_before (map text (take i words)) (cut_by word ws)) tail
      ∙ ap (λ (t : Bool). put_before (map text (take i words)) (cond t (Some ([], map text (drop (i + 1) words))) (option_map (λ parts. (text (get_or words i d) ∷ parts.0, parts.1)) (cut_by word (map text (drop (i + 1) words)))))) is
      ∙ ap (λ (l : List (List ℕ)). Some (l, map text (drop (i + 1) words))) (append-nil (map text (take i words)))

  pub cut_later : bytes_eq (text (get_or words i d)) word ≡ false → all ≡ put_before (map text (take (i + 1) words)) (cut_by word (map text (drop (i + 1) words)))
  cut_later is =
      so_far ∙ ap (λ ws. put_before (map text (take i words)) (cut_by word ws)) tail
      ∙ ap (λ (t : Bool). put_before (map text (take i words)) (cond t (Some ([], map text (drop (i + 1) words))) (option_map (λ parts. (text (get_or words i d) ∷ parts.0, parts.1)) (cut_by word (map text (drop (i + 1) words)))))) is
      ∙ put_more (map text (take i words)) (text (get_or words i d)) (cut_by word (map text (drop (i + 1) words)))
      ∙ ap (λ (l : List (List ℕ)). put_before l (cut_by word (map text (drop (i + 1) words)))) (map_take_more text words i d inside)

-- ---- blocks with their contents

below_end : (end : ℕ) (o : Option ℕ) (n : ℕ) → below end o ≡ Some n → n < end
below_end end None n e = absurd (cc)
below_end end (Some m) n e = step (ltb m end) refl e
  where
    step : (t : Bool) → ltb m end ≡ t → cond t (Some m) None ≡ Some n → n < end
    step true is p = (let same : m ≡ n = cc in omega (arith, ltb-true m end is, same))
    step false is p = absurd (cc)

pub block_low : (g : Geometry) (word : List ℕ) (b : ℕ) → block_in g word ≡ Some b → b < homes_of g
block_low g word b e = below_end (homes_of g) (number_in word) b e

both_low : (end : ℕ) (block byte : Option ℕ) (s : ℕ × ℕ) → ((b : ℕ) → block ≡ Some b → b < end) → both block byte ≡ Some s → s.0 < end
both_low end None byte s low e = absurd (cc)
both_low end (Some b) None s low e = absurd (cc)
both_low end (Some b) (Some v) s low e = (let same : b ≡ s.0 = ap (λ (t : ℕ × ℕ). t.0) (same_Some (b, v) s e) in omega (arith, low b refl, same))

ended_low : (end : ℕ) (block : Option ℕ) (text : List ℕ) (s : ℕ × ℕ) → ((b : ℕ) → block ≡ Some b → b < end) → ended_by block text ≡ Some s → s.0 < end
ended_low end block [] s low e = absurd (cc)
ended_low end block (a ∷ []) s low e = absurd (cc)
ended_low end block (a ∷ b ∷ []) s low e = absurd (cc)
ended_low end block (a ∷ b ∷ c ∷ []) s low e = step (eqb a 61) e
  where
    step : (t : Bool) → cond t (both block (byte_in b c)) None ≡ Some s → s.0 < end
    step true p = both_low end block (byte_in b c) s low p
    step false p = absurd (cc)
ended_low end block (a ∷ b ∷ c ∷ x ∷ text) s low e = absurd (cc)

pub set_low : (g : Geometry) (word : List ℕ) (s : ℕ × ℕ) → set_in g word ≡ Some s → s.0 < homes_of g
set_low g word s e = ended_low (homes_of g) (block_in g (take (length word - 3) word)) (drop (length word - 3) word) s (λ b is. block_low g (take (length word - 3) word) b is) e

content_is : (g : Geometry) (word : List ℕ) (s : ℕ × ℕ) (content : List ℕ) → Some s ≡ set_in g word → content ≡ replicate 4096 s.1 → content_in g word ≡ Some (s.0, content)
content_is g word s content is filled = ap (option_map (λ (t : ℕ × ℕ). (t.0, replicate 4096 t.1))) (sym is) ∙ ap (λ (v : List ℕ). Some (s.0, v)) (sym filled)

pub set_more : {B : Type 0} (g : Geometry) (text : B → List ℕ) (all : Option (List (ℕ × List ℕ))) (words : List B) (d : B) (i : ℕ) → i < length words → (low : ℕ) (xs ys : List (ℕ × List ℕ)) → all ≡ before xs (sets_in g low (map text (drop i words)))
    → (s : ℕ × ℕ) (content : List ℕ) (block : ℕ) → Some s ≡ set_in g (text (get_or words i d)) → content ≡ replicate 4096 s.1 → block ≡ s.0 → low ≤ block → ys ≡ xs ++ (s.0, content) ∷ []
    → (block + 1 ≤ homes_of g) × (all ≡ before ys (sets_in g (block + 1) (map text (drop (i + 1) words))))
set_more g text all words d i inside low xs ys so_far s content block is filled same rises grown =
    let more = read_more (λ (t : ℕ × List ℕ). t.0) (content_in g) text all words d i inside low xs so_far (s.0, content) (content_is g (text (get_or words i d)) s content is filled) (omega (arith, rises, same)) in (
      (let low' = set_low g (text (get_or words i d)) s (sym is) in omega (arith, low', same)),
      more ∙ (λ j. before (sym grown j) (sets_in g (sym same j + 1) (map text (drop (i + 1) words)))),
    )
