-- Lines of words, and the lines and words that are read of them again.
use Rattle.std.proofs.Common.{◌≡◌, ◌<◌, ℕ, ◌+◌, ◌/◌, ◌%◌, ◌^◌, Bool, true, false, eqb, ltb, All, List, [], ◌∷◌, ◌++◌, get_or, map, refl, sym, ◌∙◌, ap, arith, append_assoc, append-nil}
use Rattle.std.specs.Prelude.{◌&&◌, codes, decimal, slice_index}
use Rattle.std.specs.List.{AllByRecursion, slice_split}
use Rattle.std.proofs.lemmas.Bool.{and_parts, ltb-true, ne_eqb}
use Rattle.std.proofs.lemmas.Bool.Decides.{nat_tests}
use Rattle.std.proofs.lemmas.Fmt.{digits_decimal}
use Rattle.std.proofs.lemmas.List.{get_or_default}
use Rattle.std.proofs.lemmas.List.Elements.{All-append, All-cons, All-nil}
use Rattle.std.proofs.lemmas.List.Splits.{slice_split_at, slice_split_none}
use Rattle.mq_audit.specs.Spelled.{IsEvent, event_words, set_word}
use Rattle.mq_block_text.proofs.TextNumbers.{own}
use Rattle.mq_block_text.specs.Text.{hex_digit, hex_text, set_text}
use Rattle.mq_blocks.specs.Descriptor.{AreRising}
use Rattle.mq_blocks.specs.Geometry.{homes_of, queues_of}
use Rattle.mq_blocks.specs.declared.geometry.Geometry.{Geometry}
use Rattle.mq_core.specs.declared.event.Event.{Event}
use Rattle.mq_core.specs.declared.event.Event.TheVariants.{Draw, Stage, Flush, Ring, Complete, FailCommand, StoreHead, FlushHead, Clear, Acknowledge, WriteHome, HomeDone, StoreBase, FlushBase}
use Rattle.mq_ledger.specs.History.{blocks_of}
use Rattle.mq_block_trace.specs.Written.{event_line, events_text, line_of, spaced}

abbrev pub Words : Type 0
Words = List (List ℕ)

-- ---- words without spaces and line feeds

abbrev IsHigh : ℕ → Type 0
IsHigh b = 32 < b

abbrev pub IsPlain : List ℕ → Type 0
IsPlain word = All IsHigh word

abbrev pub ArePlain : Words → Type 0
ArePlain words = AllByRecursion IsPlain words

abbrev pub are_high : List ℕ → Bool
are_high [] = true
are_high (b ∷ bs) = ltb 32 b && are_high bs

pub plain : (word : List ℕ) → are_high word ≡ true → IsPlain word
plain [] high = All-nil IsHigh
plain (b ∷ bs) high = let both = and_parts (ltb 32 b) (are_high bs) high in All-cons IsHigh b bs (ltb-true 32 b both.0) (plain bs both.1)

pub plain_number : (n : ℕ) → n < 2 ^ 64 → IsPlain (decimal n)
plain_number n small = λ k d less. (let digit = digits_decimal own n small k less in omega (arith, digit.0, get_or_default (decimal n) k d 0 less))

high_digit : (d : ℕ) → 32 < hex_digit d
high_digit d = grind (arith, nat_tests)

pub plain_set : (b v : ℕ) → b < 2 ^ 64 → IsPlain (set_text b v)
plain_set b v small =
    All-append IsHigh (decimal b) (61 ∷ hex_text v) (plain_number b small)
    (All-cons IsHigh 61 (hex_text v) (omega arith) (All-cons IsHigh (hex_digit (v / 16)) (hex_digit (v % 16) ∷ []) (high_digit (v / 16)) (All-cons IsHigh (hex_digit (v % 16)) [] (high_digit (v % 16)) (All-nil IsHigh))))

pub plain_append : (ws vs : Words) → ArePlain ws → ArePlain vs → ArePlain (ws ++ vs)
plain_append [] vs first second = second
plain_append (w ∷ ws) vs first second = (first.0, plain_append ws vs first.1 second)

plain_sets : (g : Geometry) (low : ℕ) (sets : List (ℕ × List ℕ)) → AreRising low (homes_of g) (blocks_of sets) → ArePlain (map set_word sets)
plain_sets g low [] rises = tt
plain_sets g low (s ∷ sets) rises = (plain_set s.0 (slice_index s.1 0) (let high = g.homes_high in let below = rises.1 in omega (arith, high, below)), plain_sets g (s.0 + 1) sets rises.2)

plain_blocks : (g : Geometry) (low : ℕ) (blocks : List ℕ) → AreRising low (homes_of g) blocks → ArePlain (map decimal blocks)
plain_blocks g low [] rises = tt
plain_blocks g low (b ∷ blocks) rises = (plain_number b (let high = g.homes_high in let below = rises.1 in omega (arith, high, below)), plain_blocks g (b + 1) blocks rises.2)

plain_queue : (g : Geometry) (q : ℕ) → q < queues_of g → IsPlain (decimal q)
plain_queue g q low = plain_number q (let high = g.queues_high in omega (arith, low, high))

plain_home : (g : Geometry) (b : ℕ) → b < homes_of g → IsPlain (decimal b)
plain_home g b low = plain_number b (let high = g.homes_high in omega (arith, low, high))

-- the words of an event
pub plain_event : (g : Geometry) (number : ℕ) (e : Event) → IsEvent g number e → ArePlain (event_words e)
plain_event g number (Draw t) good = (
  plain (codes "draw") refl,
  (
    plain_queue g t.queue good.queue,
    (
      plain (codes "logged") refl,
      plain_append (map set_word t.logged) _ (plain_sets g 0 t.logged good.logged.0) (
        plain (codes "direct") refl,
        plain_append (map set_word t.direct) _ (plain_sets g 0 t.direct good.direct.0) (
          plain (codes "revoked") refl,
          plain_append (map decimal t.revoked) _ (plain_blocks g 0 t.revoked good.revoked)
              (plain (codes "freed") refl, plain_blocks g 0 t.freed good.freed),
        ),
      ),
    ),
  ),
)
plain_event g number (Stage q) good = (plain (codes "stage") refl, (plain_queue g q good, tt))
plain_event g number (Flush q) good = (plain (codes "flush") refl, (plain_queue g q good, tt))
plain_event g number (Ring q) good = (plain (codes "ring") refl, (plain_queue g q good, tt))
plain_event g number (Complete q c) good = (plain (codes "complete") refl, (plain_queue g q good.0, (plain_number c good.1, tt)))
plain_event g number (FailCommand q c) good = (plain (codes "failed") refl, (plain_queue g q good.0, (plain_number c good.1, tt)))
plain_event g number (StoreHead q h) good = (plain (codes "storehead") refl, (plain_queue g q good.0, (plain_number h good.1, tt)))
plain_event g number (FlushHead q) good = (plain (codes "flushhead") refl, (plain_queue g q good, tt))
plain_event g number (Clear q low) good = (plain (codes "clear") refl, (plain_queue g q good.0, (plain_number low good.1, tt)))
plain_event g number (Acknowledge n) good = (plain (codes "ack") refl, (plain_number n good, tt))
plain_event g number (WriteHome b) good = (plain (codes "home") refl, (plain_home g b good, tt))
plain_event g number (HomeDone b) good = (plain (codes "homedone") refl, (plain_home g b good, tt))
plain_event g number (StoreBase n) good = (plain (codes "storebase") refl, (plain_number n good, tt))
plain_event g number FlushBase good = (plain (codes "flushbase") refl, tt)

-- ---- a line

-- a line without its line feed
abbrev pub body : Words → List ℕ
body [] = []
body (w ∷ words) = w ++ spaced words

pub line_is : (words : Words) → line_of words ≡ body words ++ 10 ∷ []
line_is [] = refl
line_is (w ∷ words) = sym (append_assoc w (spaced words) (10 ∷ []))

no_space : (word : List ℕ) → IsPlain word → All (λ (b : ℕ). eqb b 32 ≡ false) word
no_space word high = λ k d less. (let at = high k d less in ne_eqb _ 32 (λ (same : get_or word k d ≡ 32). absurd (omega (arith, at, same))))

no_feed_in : (word : List ℕ) → IsPlain word → All (λ (b : ℕ). eqb b 10 ≡ false) word
no_feed_in word high = λ k d less. (let at = high k d less in ne_eqb _ 10 (λ (same : get_or word k d ≡ 10). absurd (omega (arith, at, same))))

-- its words are read again
pub words_again : (w : List ℕ) (words : Words) → ArePlain (w ∷ words) → slice_split (λ (b : ℕ). eqb b 32) (w ++ spaced words) ≡ w ∷ words
words_again w [] high = ap (slice_split (λ (b : ℕ). eqb b 32)) (append-nil w) ∙ slice_split_none (λ (b : ℕ). eqb b 32) w (no_space w high.0)
words_again w (v ∷ words) high =
    slice_split_at (λ (b : ℕ). eqb b 32) w 32 (v ++ spaced words) (no_space w high.0) refl
    ∙ ap (λ (l : Words). w ∷ l) (words_again v words high.1)

no_feed : (words : Words) → ArePlain words → All (λ (b : ℕ). eqb b 10 ≡ false) (spaced words)
no_feed [] high = All-nil (λ (b : ℕ). eqb b 10 ≡ false)
no_feed (w ∷ words) high =
    All-cons (λ (b : ℕ). eqb b 10 ≡ false) 32 (w ++ spaced words) refl (All-append (λ (b : ℕ). eqb b 10 ≡ false) w (spaced words) (no_feed_in w high.0) (no_feed words high.1))

no_feed_body : (words : Words) → ArePlain words → All (λ (b : ℕ). eqb b 10 ≡ false) (body words)
no_feed_body [] high = All-nil (λ (b : ℕ). eqb b 10 ≡ false)
no_feed_body (w ∷ words) high = All-append (λ (b : ℕ). eqb b 10 ≡ false) w (spaced words) (no_feed_in w high.0) (no_feed words high.1)

-- ---- lines

abbrev pub texts : List Words → List ℕ
texts [] = []
texts (words ∷ lines) = line_of words ++ texts lines

pub texts_events : (es : List Event) → events_text es ≡ texts (map event_words es)
texts_events [] = refl
texts_events (e ∷ es) = ap (λ (l : List ℕ). event_line e ++ l) (texts_events es)

pub split_texts : (lines : List Words) → AllByRecursion ArePlain lines → slice_split (λ (b : ℕ). eqb b 10) (texts lines) ≡ map body lines ++ [] ∷ []
split_texts [] high = refl
split_texts (words ∷ lines) high =
    ap (λ (l : List ℕ). slice_split (λ (b : ℕ). eqb b 10) (l ++ texts lines)) (line_is words)
    ∙ ap (slice_split (λ (b : ℕ). eqb b 10)) (append_assoc (body words) (10 ∷ []) (texts lines))
    ∙ slice_split_at (λ (b : ℕ). eqb b 10) (body words) 10 (texts lines) (no_feed_body words high.0) refl
    ∙ ap (λ (l : Words). body words ∷ l) (split_texts lines high.1)
