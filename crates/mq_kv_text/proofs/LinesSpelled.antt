-- Lines, and the words that they are cut into.
use Rattle.std.proofs.Common.{◌≡◌, ℕ, Bool, true, false, eqb, cond, Option, Some, None, List, [], ◌∷◌, get_or, sym, ◌∙◌, ap, refl, arith}
use Rattle.std.specs.Prelude.{codes, bytes_eq, Result, Ok, Err, IfOk, IfErr}
use Rattle.std.specs.List.{find, join_with_byte, list_all, slice_split}
use Rattle.std.proofs.lemmas.List.Splits.{join_with_byte-slice_split}
use Rattle.std.proofs.lemmas.Slice.Eq.{bytes_eq-Decides}
use Rattle.mq_block_text.proofs.TextParts.{Avoids, split_of_join}
use Rattle.mq_block_text.specs.Words.{is_visible, is_plain}
use Rattle.mq_block_text.proofs.WordsLines.{avoids, joined, no_feed, plain_of, visible_space, word_found}
use Rattle.mq_kv_buckets.specs.declared.operation.KvOp.TheVariants.{Delete, Get, Put}
use Rattle.mq_kv_text.specs.Files.{IsLine, is_word, line_text, line_words}
use Rattle.mq_kv_text.specs.Verbs.{verb_in, verb_text, verbs}
use Rattle.mq_kv_text.specs.declared.line.Line.{Line}
use Rattle.mq_kv_text.specs.declared.line.Line.TheVariants.{Asks, Syncs}
use Rattle.mq_kv_text.specs.declared.refusal.Misread.{Misread}
use Rattle.mq_kv_text.specs.declared.refusal.Misread.TheVariants.{Form}
use Rattle.mq_kv_text.specs.declared.verb.Verb.{Verb}

-- ---- the bytes of words

word_visible : (word : List ℕ) → is_word word ≡ true → list_all is_visible word ≡ true
word_visible [] h = refl
word_visible (b ∷ bytes) h = h

no_space : (word : List ℕ) → list_all is_visible word ≡ true → Avoids 32 word
no_space word h = avoids is_visible 32 visible_space word h

word_no_space : (word : List ℕ) → is_word word ≡ true → Avoids 32 word
word_no_space word h = no_space word (word_visible word h)

word_plain : (word : List ℕ) → is_word word ≡ true → list_all is_plain word ≡ true
word_plain word h = plain_of word (word_visible word h)

-- ---- a line is its words, joined by spaces

line_joined : (l : Line) → join_with_byte 32 (line_words l) ≡ line_text l
line_joined (Asks (Put k v)) = refl
line_joined (Asks (Delete k)) = refl
line_joined (Asks (Get k)) = refl
line_joined Syncs = refl

pub words_of_line : (l : Line) → IsLine l → slice_split (λ b. eqb b 32) (line_text l) ≡ line_words l
words_of_line (Asks (Put k v)) good = split_of_join 32 (codes "put") (k ∷ v ∷ []) (no_space (codes "put") refl) (word_no_space k good.0, (word_no_space v good.1, tt))
words_of_line (Asks (Delete k)) good = split_of_join 32 (codes "del") (k ∷ []) (no_space (codes "del") refl) (word_no_space k good, tt)
words_of_line (Asks (Get k)) good = split_of_join 32 (codes "get") (k ∷ []) (no_space (codes "get") refl) (word_no_space k good, tt)
words_of_line Syncs good = split_of_join 32 (codes "sync") [] (no_space (codes "sync") refl) tt

pub line_of_words : (text : List ℕ) (l : Line) → slice_split (λ b. eqb b 32) text ≡ line_words l → text ≡ line_text l
line_of_words text l e = sym (join_with_byte-slice_split 32 text) ∙ ap (join_with_byte 32) e ∙ line_joined l

-- ---- no line has a line feed

line_plain : (l : Line) → IsLine l → list_all is_plain (line_text l) ≡ true
line_plain (Asks (Put k v)) good = joined is_plain k (32 ∷ v) (word_plain k good.0) (word_plain v good.1)
line_plain (Asks (Delete k)) good = word_plain k good
line_plain (Asks (Get k)) good = word_plain k good
line_plain Syncs good = refl

pub line_avoids : (l : Line) → IsLine l → Avoids 10 (line_text l)
line_avoids l good = no_feed (line_text l) (line_plain l good)

-- ---- the line of some words is one alone

-- the first byte of the first word
abbrev first : List (List ℕ) → ℕ
first words = get_or (get_or words 0 []) 0 0

pub line_once : (l m : Line) → line_words l ≡ line_words m → l ≡ m
line_once (Asks (Put k v)) (Asks (Put i u)) e = (λ j. Asks (Put (get_or (e j) 1 []) (get_or (e j) 2 [])))
line_once (Asks (Put k v)) (Asks (Delete i)) e = absurd (omega (arith, ap first e))
line_once (Asks (Put k v)) (Asks (Get i)) e = absurd (omega (arith, ap first e))
line_once (Asks (Put k v)) Syncs e = absurd (omega (arith, ap first e))
line_once (Asks (Delete k)) (Asks (Put i u)) e = absurd (omega (arith, ap first e))
line_once (Asks (Delete k)) (Asks (Delete i)) e = (λ j. Asks (Delete (get_or (e j) 1 [])))
line_once (Asks (Delete k)) (Asks (Get i)) e = absurd (omega (arith, ap first e))
line_once (Asks (Delete k)) Syncs e = absurd (omega (arith, ap first e))
line_once (Asks (Get k)) (Asks (Put i u)) e = absurd (omega (arith, ap first e))
line_once (Asks (Get k)) (Asks (Delete i)) e = absurd (omega (arith, ap first e))
line_once (Asks (Get k)) (Asks (Get i)) e = (λ j. Asks (Get (get_or (e j) 1 [])))
line_once (Asks (Get k)) Syncs e = absurd (omega (arith, ap first e))
line_once Syncs (Asks (Put i u)) e = absurd (omega (arith, ap first e))
line_once Syncs (Asks (Delete i)) e = absurd (omega (arith, ap first e))
line_once Syncs (Asks (Get i)) e = absurd (omega (arith, ap first e))
line_once Syncs Syncs e = refl

-- two texts of one line are read as the same
pub same_line : (l m : Line) → IsLine l → IsLine m → line_text l ≡ line_text m → l ≡ m
same_line l m good also e = line_once l m (sym (words_of_line l good) ∙ ap (slice_split (λ b. eqb b 32)) e ∙ words_of_line m also)

-- ---- verbs

pub verb_found : (word : List ℕ) (v : Verb) → Some v ≡ verb_in word → word ≡ verb_text v
verb_found word v e = word_found verb_text word verbs v (sym e)

none_some : (v : Verb) → ◌≡◌ {A = Option Verb} None (Some v) → ⊥
none_some v e = cc

-- each line has a verb
verb_there : (l : Line) → verb_in (get_or (line_words l) 0 []) ≡ None → ⊥
verb_there (Asks (Put k v)) e = cc
verb_there (Asks (Delete k)) e = cc
verb_there (Asks (Get k)) e = cc
verb_there Syncs e = cc

pub verb_missing : (word : List ℕ) (words : List (List ℕ)) (l : Line) → None ≡ verb_in word → word ∷ words ≡ line_words l → ⊥
verb_missing word words l none e = verb_there l (ap (λ (ws : List (List ℕ)). verb_in (get_or ws 0 [])) (sym e) ∙ sym none)

-- ---- what is read of words is read of their line

module _ (text : List ℕ) (words : List (List ℕ)) (cut : slice_split (λ b. eqb b 32) text ≡ words) where
  pub told_ok : (r : Result Line Misread) → IfOk r (λ l. IsLine l × (words ≡ line_words l)) → IfOk r (λ l. IsLine l × (text ≡ line_text l))
  told_ok (Ok l) ok = (ok.0, line_of_words text l (cut ∙ ok.1))
  told_ok (Err e) ok = tt

  pub told_refused :
      (r : Result Line Misread) → IfErr r (λ e. e ≡ Form → (l : Line) → IsLine l → words ≡ line_words l → ⊥)
      → IfErr r (λ e. e ≡ Form → (l : Line) → IsLine l → text ≡ line_text l → ⊥)
  told_refused (Ok l) refused = tt
  told_refused (Err e) refused = λ form l is spelled. refused form l is (sym cut ∙ ap (slice_split (λ b. eqb b 32)) spelled ∙ words_of_line l is)
