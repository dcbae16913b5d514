-- What the answers of the reading say: no other answer fits.
use Rattle.std.proofs.Common.{◌≡◌, ℕ, List, [], eqb, inl, inr, refl}
use Rattle.std.specs.Prelude.{map, Result, Ok, Err, IfOk, IfErr, MatchResult}
use Rattle.std.specs.List.{slice_split}
use Rattle.mq_block_text.specs.declared.item.BlockItem.{BlockItem}
use Rattle.mq_block_text.specs.declared.refusal.BlockTextCause.{BlockTextCause}
use Rattle.mq_block_text.specs.declared.refusal.BlockTextCause.TheVariants.{Empty, Item, Block, Twice, Area}
use Rattle.mq_block_text.specs.declared.refusal.BlockTextRefusal.{BlockTextRefusal}
use Rattle.mq_block_text.specs.declared.refusal.BlockTextRefusal.TheVariants.{At, OutOfMemory}
use Rattle.mq_block_text.specs.Refusals.{RefusesWord, RefusesWords, RefusesItem, RefusesLine, RefusesText, IsRefused, IsRefusal}
use Rattle.mq_block_text.specs.Text.{IsTextOf, IsGoodText, item_text}
use Rattle.mq_block_text.proofs.TextParts.{part_of_split}
use Rattle.mq_block_text.proofs.TextWhole.{one_text, good_or_refused, one_refusal}

-- a word that is refused is an item that is refused
item_line : (before : List (List BlockItem)) (text : List ℕ) (items : List BlockItem) (word : List ℕ) (cause : BlockTextCause) → RefusesWord items word cause → RefusesItem text cause → RefusesLine before text cause
item_line before text items word Empty bad is = absurd bad
item_line before text items word Item bad is = is
item_line before text items word Block bad is = is
item_line before text items word Twice bad is = is
item_line before text items word Area bad is = absurd bad

pub refused_of_words :
    (before : List (List BlockItem)) (text : List ℕ) (cause : BlockTextCause) → (text ≡ [] → ⊥) → RefusesWords (slice_split (λ b. eqb b 32) text) cause → RefusesLine before text cause
refused_of_words before text cause some bad =
    item_line before text bad.before bad.word cause bad.refused
    (record {
      before = bad.before;
      word = bad.word;
      some = some;
      part = part_of_split 32 text (map item_text bad.before) bad.word bad.rest bad.are;
      good = bad.good;
      refused = bad.refused;
    })

-- what a refusal says, in a weaker form
pub refused_more : (P Q : ℕ → BlockTextCause → Type 0) → ((line : ℕ) (cause : BlockTextCause) → P line cause → Q line cause) → (e : BlockTextRefusal) → IsRefused P e → IsRefused Q e
refused_more P Q f (At line cause) bad = f line cause bad
refused_more P Q f OutOfMemory bad = tt

module _ (bytes : List ℕ) where
  abbrev pub Answer : Type 0
  Answer = Result (List (List BlockItem)) BlockTextRefusal

  pub exact_of :
      (r : Answer) → IfOk r (λ t. IsTextOf bytes t × IsGoodText t) → IfErr r (IsRefused (RefusesText bytes))
      → (line : ℕ) (cause : BlockTextCause) → RefusesText bytes line cause → IsRefusal r line cause
  exact_of (Ok t) ok bad line cause is = good_or_refused bytes t line cause ok.0 ok.1 is
  exact_of (Err (At l c)) ok bad line cause is = let same = one_refusal bytes l line c cause bad is in inl (λ i. At (same.0 i) (same.1 i))
  exact_of (Err OutOfMemory) ok bad line cause is = inr refl

  pub only_of :
      (r : Answer) → IfOk r (λ t. IsTextOf bytes t × IsGoodText t) → IfErr r (IsRefused (RefusesText bytes))
      → (lines : List (List BlockItem)) → IsTextOf bytes lines → IsGoodText lines → MatchResult r (λ t. t ≡ lines) (λ e. e ≡ OutOfMemory)
  only_of (Ok t) ok bad lines is good = one_text bytes t lines ok.0 is ok.1 good
  only_of (Err (At l c)) ok bad lines is good = absurd (good_or_refused bytes lines l c is good bad)
  only_of (Err OutOfMemory) ok bad lines is good = refl
