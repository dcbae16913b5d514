-- Texts of the loose order. A line commits the items of a block text's line on a queue, or drains a queue.
use Rattle.std.specs.Prelude.{◌≡◌, ◌≢◌, ◌<◌, ◌≤◌, ◌⊎◌, ℕ, ◌+◌, List, [], ◌∷◌, ◌++◌, All, codes, length, map, nat_eq, Result, MatchResult, if◌then◌else◌}
use Rattle.mq_block_text.specs.Refusals.{IsPart}
use Rattle.mq_block_text.specs.Text.{number_text, sets_in}
use Rattle.mq_block_text.specs.Text as items
use Rattle.mq_loose_text.specs.declared.line.LooseLine.{LooseLine}
use Rattle.mq_loose_text.specs.declared.line.LooseLine.TheVariants.{Commit, Done}
use Rattle.mq_loose_text.specs.declared.refusal.LooseTextRefusal.{LooseTextRefusal}
use Rattle.mq_loose_text.specs.declared.refusal.LooseTextRefusal.TheVariants.{Line, OutOfMemory}

-- ---- how lines are spelled

-- `0 5=ab -9` is a commit on queue 0, `done 0` a drain of it
abbrev pub line_text : LooseLine → List ℕ
line_text (Commit q is) = number_text q ++ 32 ∷ items.line_text is
line_text (Done q) = codes "done " ++ number_text q

-- the lines, each with a line feed at its end
abbrev pub text_of : List LooseLine → List ℕ
text_of [] = []
text_of (l ∷ ls) = line_text l ++ 10 ∷ text_of ls

-- The bytes spell the lines; the last line feed may be missing. No line is empty.
abbrev pub IsTextOf : List ℕ → List LooseLine → Type 0
IsTextOf bytes lines = (bytes ≡ text_of lines) ⊎ ((bytes ++ 10 ∷ [] ≡ text_of lines) × (lines ≢ []))

-- ---- which lines may stand

-- the queues of the drive
unfoldable pub queue_count : ℕ
queue_count = 4

-- a commit has an item
abbrev pub IsGoodLine : LooseLine → Type 0
IsGoodLine (Commit q is) = (q < queue_count) × items.IsGoodLine is
IsGoodLine (Done q) = q < queue_count

-- The places of a queue's journal area that the lines take: one for each item that sets a block, and one for
-- each commit's descriptor.
abbrev pub places_on : ℕ → List LooseLine → ℕ
places_on q [] = 0
places_on q (Commit r is ∷ ls) = (if nat_eq r q then sets_in is + 1 else 0) + places_on q ls
places_on q (Done r ∷ ls) = places_on q ls

-- good lines, whose commits fit the area of each queue
pub record IsGoodText (lines : List LooseLine) : Type 0 where
  pub good : All IsGoodLine lines
  pub fits : (q : ℕ) → q < queue_count → places_on q lines ≤ 1024

-- the bytes spell these lines, which are good
pub record IsLooseText (bytes : List ℕ) (lines : List LooseLine) : Type 0 where
  pub spelled : IsTextOf bytes lines
  pub good : IsGoodText lines

-- ---- why a text is refused

-- The text begins with good lines, which fit. There is one more line, of this number counted from 1, and no
-- line that may stand behind them is spelled so.
pub record RefusesText (bytes : List ℕ) (number : ℕ) : Type 0 where
  pub before : List LooseLine
  pub text : List ℕ
  pub good : IsGoodText before
  pub part : IsPart 10 bytes (text_of before) text
  pub there : bytes ≢ text_of before
  pub counted : number ≡ length before + 1
  pub refused : (l : LooseLine) → text ≡ line_text l → IsGoodText (before ++ l ∷ []) → ⊥

-- these texts begin with good lines, which fit, and the next, of this number, may not stand behind them
pub record RefusesLines (texts : List (List ℕ)) (number : ℕ) : Type 0 where
  pub before : List LooseLine
  pub text : List ℕ
  pub rest : List (List ℕ)
  pub are : texts ≡ map line_text before ++ text ∷ rest
  pub good : IsGoodText before
  pub counted : number ≡ length before + 1
  pub refused : (l : LooseLine) → text ≡ line_text l → IsGoodText (before ++ l ∷ []) → ⊥

-- A refusal at a line gives its number. Out of memory says nothing of the text.
abbrev pub IsRefused : (ℕ → Type 0) → LooseTextRefusal → Type 0
IsRefused holds (Line number) = holds number
IsRefused holds OutOfMemory = Unit {0}

-- the answer is this refusal, unless memory runs out
abbrev pub IsRefusal : {T : Type 0} → Result T LooseTextRefusal → ℕ → Type 0
IsRefusal r number = MatchResult r (λ _. ⊥) (λ e. (e ≡ Line number) ⊎ (e ≡ OutOfMemory))

-- ---- what is printed

-- the line of a text that is refused, as `loose line 1`
abbrev pub refused_line : ℕ → List ℕ
refused_line line = codes "loose line " ++ number_text line ++ 10 ∷ []

-- each number after a space
abbrev pub numbers_text : List ℕ → List ℕ
numbers_text [] = []
numbers_text (n ∷ ns) = 32 ∷ number_text n ++ numbers_text ns

-- the settled numbers, the set of the image, and the blocks that its transactions leave, with their bytes
abbrev pub printed : (acknowledged set : List ℕ) → List (ℕ × ℕ) → List ℕ
printed acknowledged set live =
    codes "acknowledged" ++ numbers_text acknowledged ++ 10 ∷ codes "set" ++ numbers_text set ++ 10 ∷ items.live_text live
