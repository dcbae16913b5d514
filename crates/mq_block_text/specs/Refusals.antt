-- Why a block text is refused: the first of its lines that is, and the first cause in it.
use Rattle.std.specs.Prelude.{◌≡◌, ◌≢◌, ◌<◌, ◌⊎◌, ℕ, ◌+◌, List, [], ◌∷◌, ◌++◌, codes, length, map, Result, MatchResult}
use Rattle.std.specs.List.{All}
use Rattle.mq_block_text.specs.Text.{block_of, item_text, line_text, text_of, places_of, HasForm, IsGoodItem, IsUnnamed, AreGoodItems, IsGoodLine, IsGoodText}
use Rattle.mq_block_text.specs.declared.item.BlockItem.{BlockItem}
use Rattle.mq_block_text.specs.declared.refusal.BlockTextCause.{BlockTextCause}
use Rattle.mq_block_text.specs.declared.refusal.BlockTextCause.TheVariants.{Empty, Item, Block, Twice, Area}
use Rattle.mq_block_text.specs.declared.refusal.BlockTextRefusal.{BlockTextRefusal}
use Rattle.mq_block_text.specs.declared.refusal.BlockTextRefusal.TheVariants.{At, OutOfMemory}

-- ---- parts of a text

-- the parts, each with this byte at its end
abbrev pub ended : ℕ → List (List ℕ) → List ℕ
ended at [] = []
ended at (x ∷ xs) = x ++ at ∷ ended at xs

-- the part of a text that begins after `front`, and goes up to the next byte `at` or to the end
pub record IsPart (at : ℕ) (text front part : List ℕ) : Type 0 where
  pub rest : List ℕ
  pub stands : (text ≡ front ++ part) ⊎ (text ≡ front ++ (part ++ at ∷ rest))
  pub plain : All (λ b. b ≢ at) part

-- ---- a word of a line

-- the word is not in the form of items
abbrev pub HasNoItem : List ℕ → Type 0
HasNoItem word = (i : BlockItem) → HasForm i → word ≡ item_text i → ⊥

-- why a word is refused in a line that has these items before it
abbrev pub RefusesWord : List BlockItem → List ℕ → BlockTextCause → Type 0
RefusesWord before word Empty = ⊥
RefusesWord before word Item = HasNoItem word
RefusesWord before word Block = (i : BlockItem) × HasForm i × (255 < block_of i) × (word ≡ item_text i)
RefusesWord before word Twice =
    (i : BlockItem) × IsGoodItem i × (IsUnnamed (block_of i) before → ⊥) × (word ≡ item_text i)
RefusesWord before word Area = ⊥

-- these words begin with good items, and the next is refused
pub record RefusesWords (words : List (List ℕ)) (cause : BlockTextCause) : Type 0 where
  pub before : List BlockItem
  pub word : List ℕ
  pub rest : List (List ℕ)
  pub are : words ≡ map item_text before ++ word ∷ rest
  pub good : AreGoodItems before
  pub refused : RefusesWord before word cause

-- ---- a line

-- the line begins with good items, each with a space after it, and the next word is refused
pub record RefusesItem (text : List ℕ) (cause : BlockTextCause) : Type 0 where
  pub before : List BlockItem
  pub word : List ℕ
  pub some : text ≢ []
  pub part : IsPart 32 text (ended 32 (map item_text before)) word
  pub good : AreGoodItems before
  pub refused : RefusesWord before word cause

-- the line is good, and has no room in the area after the lines before it
pub record PassesArea (before : List (List BlockItem)) (text : List ℕ) : Type 0 where
  pub line : List BlockItem
  pub spelled : text ≡ line_text line
  pub good : IsGoodLine line
  pub places : 1024 < places_of (before ++ line ∷ [])

-- why a line is refused in a text that has these lines before it
abbrev pub RefusesLine : List (List BlockItem) → List ℕ → BlockTextCause → Type 0
RefusesLine before text Empty = text ≡ []
RefusesLine before text Item = RefusesItem text Item
RefusesLine before text Block = RefusesItem text Block
RefusesLine before text Twice = RefusesItem text Twice
RefusesLine before text Area = PassesArea before text

-- these texts begin with good lines, which fit the area, and the next, of this number, is refused
pub record RefusesLines (texts : List (List ℕ)) (number : ℕ) (cause : BlockTextCause) : Type 0 where
  pub before : List (List BlockItem)
  pub text : List ℕ
  pub rest : List (List ℕ)
  pub are : texts ≡ map line_text before ++ text ∷ rest
  pub good : IsGoodText before
  pub counted : number ≡ length before + 1
  pub refused : RefusesLine before text cause

-- ---- a text

-- The text begins with good lines, which fit the area. There is one more line, of this number
-- counted from 1, and it is refused.
pub record RefusesText (bytes : List ℕ) (number : ℕ) (cause : BlockTextCause) : Type 0 where
  pub before : List (List BlockItem)
  pub text : List ℕ
  pub good : IsGoodText before
  pub part : IsPart 10 bytes (text_of before) text
  pub there : bytes ≢ text_of before
  pub counted : number ≡ length before + 1
  pub refused : RefusesLine before text cause

-- A refusal at a line gives its number and its cause. Out of memory says nothing of the text.
abbrev pub IsRefused : (ℕ → BlockTextCause → Type 0) → BlockTextRefusal → Type 0
IsRefused holds (At line cause) = holds line cause
IsRefused holds OutOfMemory = Unit {0}

-- the answer is this refusal, unless memory runs out
abbrev pub IsRefusal : {T : Type 0} → Result T BlockTextRefusal → ℕ → BlockTextCause → Type 0
IsRefusal r line cause = MatchResult r (λ _. ⊥) (λ e. (e ≡ At line cause) ⊎ (e ≡ OutOfMemory))

-- how a cause is printed
abbrev pub cause_name : BlockTextCause → List ℕ
cause_name Empty = codes "Empty"
cause_name Item = codes "Item"
cause_name Block = codes "Block"
cause_name Twice = codes "Twice"
cause_name Area = codes "Area"
