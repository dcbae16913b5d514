-- The text of a trace is read as this trace.
use Rattle.std.proofs.Common.{◌≡◌, ◌<◌, ℕ, ◌+◌, ◌^◌, List, [], ◌∷◌, ◌++◌, length, map, Some, refl, ◌∙◌, ap, arith}
use Rattle.std.specs.Prelude.{codes, decimal, Result, Ok}
use Rattle.std.specs.List.{AllByRecursion}
use Rattle.std.specs.Option.{option_map}
use Rattle.mq_block_text.specs.Words.{words_of}
use Rattle.mq_block_text.proofs.WordsDigits.{number_again}
use Rattle.mq_audit.specs.Answers.{and_then}
use Rattle.mq_audit.specs.Events.{event_in}
use Rattle.mq_audit.specs.Lists.{headed, sets_in}
use Rattle.mq_audit.specs.Spelled.{IsEvent, event_words}
use Rattle.mq_audit.specs.Traces.{IsHead, IsTrace, Trace, before_last, ended, last_after, last_of, lines_of, numbers_in, onto, placed, rest_in, start_in, started, stepped, steps_in, tail_of, with_events}
use Rattle.mq_audit.proofs.TracesReading.{before_last_is, last_of_is}
use Rattle.mq_blocks.specs.declared.geometry.Geometry.{Geometry}
use Rattle.mq_core.specs.declared.event.Event.{Event}
use Rattle.mq_core.specs.declared.event.Event.TheVariants.{Draw, Stage, Flush, Ring, Complete, FailCommand, StoreHead, FlushHead, Clear, Acknowledge, WriteHome, HomeDone, StoreBase, FlushBase}
use Rattle.mq_block_trace.specs.Fresh.{IsTextGeometry}
use Rattle.mq_block_trace.specs.Traced.{blank_start}
use Rattle.mq_block_trace.specs.Written.{head_line, start_line, trace_text}
use Rattle.mq_block_trace.proofs.Lined.{ArePlain, Words, body, plain, plain_event, plain_number, split_texts, texts, texts_events, words_again}
use Rattle.mq_block_trace.proofs.Spells.{AreEvents}

-- what the law of lines says of reading
abbrev pub ReadsBack : Type 0
ReadsBack = (g : Geometry) (number : ℕ) (line : List ℕ) (e : Event) → IsEvent g number e → words_of line ≡ event_words e → event_in g number line ≡ Some e

some_words : (e : Event) → 0 < length (event_words e)
some_words (Draw t) = omega arith
some_words (Stage q) = omega arith
some_words (Flush q) = omega arith
some_words (Ring q) = omega arith
some_words (Complete q c) = omega arith
some_words (FailCommand q c) = omega arith
some_words (StoreHead q h) = omega arith
some_words (FlushHead q) = omega arith
some_words (Clear q low) = omega arith
some_words (Acknowledge n) = omega arith
some_words (WriteHome b) = omega arith
some_words (HomeDone b) = omega arith
some_words (StoreBase n) = omega arith
some_words FlushBase = omega arith

words_again_all : (words : Words) → 0 < length words → ArePlain words → words_of (body words) ≡ words
words_again_all [] some high = absurd (omega arith)
words_again_all (w ∷ words) some high = words_again w words high

events_plain : (g : Geometry) (last : ℕ) (es : List Event) → AreEvents g last es → AllByRecursion ArePlain (map event_words es)
events_plain g last [] are = tt
events_plain g last (e ∷ es) are = (plain_event g (last + 1) e are.0, events_plain g (last_after e last) es are.1)

steps_again : ReadsBack → (g : Geometry) (last line : ℕ) (es : List Event) → AreEvents g last es → steps_in g last line (map body (map event_words es)) ≡ Ok es
steps_again read g last line [] are = refl
steps_again read g last line (e ∷ es) are =
    ap (λ o. stepped line o (λ (v : Event). steps_in g (last_after v last) (line + 1) (map body (map event_words es)))) (read g (last + 1) (body (event_words e)) e are.0 (words_again_all (event_words e) (some_words e) (plain_event g (last + 1) e are.0)))
    ∙ ap (onto e) (steps_again read g (last_after e last) (line + 1) es are.1)

numbers_again : (ns : List ℕ) → AllByRecursion (λ (n : ℕ). n < 2 ^ 64) ns → numbers_in (map decimal ns) ≡ Some ns
numbers_again [] small = refl
numbers_again (n ∷ ns) small =
    ap (λ o. and_then o (λ (m : ℕ). option_map (λ ms. m ∷ ms) (numbers_in (map decimal ns)))) (number_again n small.0)
    ∙ ap (option_map (λ ms. n ∷ ms)) (numbers_again ns small.1)

module _ (g : Geometry) (text : IsTextGeometry g) where
  abbrev numbers : List ℕ
  numbers = g.queues ∷ g.area ∷ g.meta ∷ g.zone ∷ 0 ∷ []

  numbers_small : AllByRecursion (λ (n : ℕ). n < 2 ^ 64) numbers
  numbers_small = (omega (arith, text.queues), (omega (arith, text.area), (omega (arith, text.meta), (omega (arith, text.zone), (omega arith, tt)))))

  numbers_plain : (ns : List ℕ) → AllByRecursion (λ (n : ℕ). n < 2 ^ 64) ns → ArePlain (map decimal ns)
  numbers_plain [] small = tt
  numbers_plain (n ∷ ns) small = (plain_number n small.0, numbers_plain ns small.1)

  abbrev head_words : Words
  head_words = codes "geometry" ∷ map decimal numbers

  head_plain : ArePlain head_words
  head_plain = (plain (codes "geometry") refl, numbers_plain numbers numbers_small)

  abbrev start_words : Words
  start_words = codes "start" ∷ []

  start_plain : ArePlain start_words
  start_plain = (plain (codes "start") refl, tt)

  is_head : IsHead (body head_words) g 0
  is_head = record {
    low = omega arith;
    words = ap (λ (ws : Words). and_then (headed (codes "geometry") ws) (λ words. numbers_in words)) (words_again (codes "geometry") (map decimal numbers) head_plain) ∙ numbers_again numbers numbers_small;
  }

  start_again : start_in g (body start_words) ≡ Some (blank_start g)
  start_again =
      ap (λ (ws : Words). and_then (headed (codes "start") ws) (λ words. option_map (λ sets. placed sets (blank_start g)) (sets_in g 0 words))) (words_again (codes "start") [] start_plain)

  module _ (read : ReadsBack) (es : List Event) (are : AreEvents g 0 es) where
    abbrev all_words : List Words
    all_words = head_words ∷ start_words ∷ map event_words es

    all_plain : AllByRecursion ArePlain all_words
    all_plain = (head_plain, (start_plain, events_plain g 0 es are))

    text_is : trace_text g es ≡ texts all_words
    text_is = ap (λ (l : List ℕ). head_line g ++ (start_line ++ l)) (texts_events es)

    lines_are : lines_of (trace_text g es) ≡ map body all_words
    lines_are = ap lines_of text_is ∙ ap before_last (split_texts all_words all_plain) ∙ before_last_is (map body all_words) []

    tail_is : tail_of (trace_text g es) ≡ []
    tail_is = ap tail_of text_is ∙ ap last_of (split_texts all_words all_plain) ∙ last_of_is (map body all_words) []

    abbrev this : Trace
    this = record { geometry = g; base = 0; start = blank_start g; events = es }

    rest_is : rest_in g 0 (map body (start_words ∷ map event_words es)) (tail_of (trace_text g es)) ≡ Ok this
    rest_is =
        ap (rest_in g 0 (map body (start_words ∷ map event_words es))) tail_is
        ∙ ap (started g 0 (map body (map event_words es)) []) start_again
        ∙ ap (λ (r : Result (List Event) ℕ). with_events g 0 (blank_start g) (ended (length (map body (map event_words es)) + 3) [] r)) (steps_again read g 0 3 es are)

    pub read_again : IsTrace (trace_text g es) this
    read_again = record {
      head = body head_words;
      lines = map body (start_words ∷ map event_words es);
      geometry = g;
      base = 0;
      are = lines_are;
      is = is_head;
      rest = rest_is;
    }
