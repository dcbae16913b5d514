-- Which texts spell which scripts.
use Rattle.std.specs.Prelude.{◌≡◌, ◌<◌, ◌≤◌, ◌⊎◌, ℕ, true, List, [], ◌∷◌, ◌++◌, length, replicate, codes, decimal}
use Rattle.std.specs.List.{list_all}
use Rattle.mq_block_text.specs.Text.{hex_text}
use Rattle.mq_block_text.specs.Words.{AreLines}
use Rattle.mq_tree.specs.declared.request.Request.{Request}
use Rattle.mq_tree.specs.declared.request.Request.TheVariants.{Mkdir, Create, Write, Truncate, Unlink, Rmdir, Rename, Link, Read, List as ListOf, Stat}
use Rattle.mq_tree.specs.Listings.{path_text}
use Rattle.mq_script.specs.Grammar.{AreBytes, IsNumber, IsPath}
use Rattle.mq_script.specs.Printing.{is_quotable, pairs_text, request_text}
use Rattle.mq_script.specs.Scripts.{Group, Script}
use Rattle.mq_script.specs.declared.group.End.{End}
use Rattle.mq_script.specs.declared.group.End.TheVariants.{Fsync, Fatomic, Ask}

-- between quotes
pub record IsQuoted (text bytes : List ℕ) : Type 0 where
  pub are : list_all is_quotable bytes ≡ true
  pub is : text ≡ 34 ∷ bytes ++ 34 ∷ []

-- by two digits for each byte
pub record IsHex (text bytes : List ℕ) : Type 0 where
  pub are : AreBytes bytes
  pub is : text ≡ codes "hex:" ++ pairs_text bytes

-- by one byte and how often it stands there
pub record IsFill (text bytes : List ℕ) : Type 0 where
  pub byte : ℕ
  pub count : ℕ
  pub small : byte < 256
  pub few : count ≤ 4243456
  pub are : bytes ≡ replicate count byte
  pub is : text ≡ codes "fill:" ++ hex_text byte ++ 58 ∷ decimal count

-- the data spells the bytes
abbrev pub IsData : List ℕ → List ℕ → Type 0
IsData text bytes = IsQuoted text bytes ⊎ (IsHex text bytes ⊎ IsFill text bytes)

-- the line of a write
pub record IsWriting (line : List ℕ) (path : List (List ℕ)) (offset : ℕ) (bytes : List ℕ) : Type 0 where
  pub form : List ℕ
  pub path_is : IsPath path
  pub offset_is : IsNumber offset
  pub data_is : IsData form bytes
  pub is : line ≡ codes "write " ++ path_text path ++ 32 ∷ decimal offset ++ 32 ∷ form

-- the line spells the request: data has three forms, and all else is as it is printed
abbrev pub Asks : List ℕ → Request → Type 0
Asks line (Mkdir p) = IsPath p × (line ≡ request_text (Mkdir p))
Asks line (Create p) = IsPath p × (line ≡ request_text (Create p))
Asks line (Write p offset bytes) = IsWriting line p offset bytes
Asks line (Truncate p size) = IsPath p × IsNumber size × (line ≡ request_text (Truncate p size))
Asks line (Unlink p) = IsPath p × (line ≡ request_text (Unlink p))
Asks line (Rmdir p) = IsPath p × (line ≡ request_text (Rmdir p))
Asks line (Rename p q) = IsPath p × IsPath q × (line ≡ request_text (Rename p q))
Asks line (Link p q) = IsPath p × IsPath q × (line ≡ request_text (Link p q))
Asks line (Read p offset count) =
    IsPath p × IsNumber offset × IsNumber count × (line ≡ request_text (Read p offset count))
Asks line (ListOf p) = IsPath p × (line ≡ request_text (ListOf p))
Asks line (Stat p) = IsPath p × (line ≡ request_text (Stat p))

-- a line for each request
abbrev pub AskAll : List (List ℕ) → List Request → Type 0
AskAll [] [] = Unit {0}
AskAll [] (r ∷ requests) = ⊥
AskAll (line ∷ lines) [] = ⊥
AskAll (line ∷ lines) (r ∷ requests) = Asks line r × AskAll lines requests

abbrev pub end_word : End → List ℕ
end_word Fsync = codes "fsync"
end_word Fatomic = codes "fatomic"
end_word Ask = codes "ask"

-- the lines of each group, which end with its end
abbrev pub SpellAll : List (List ℕ) → List Group → Type 0
SpellAll lines [] = lines ≡ []
SpellAll lines (g ∷ groups) =
    (asked : List (List ℕ)) × (rest : List (List ℕ)) × AskAll asked g.requests
    × (lines ≡ asked ++ end_word g.end ∷ rest) × SpellAll rest groups

-- the text spells the script
pub record Spells (text : List ℕ) (script : Script) : Type 0 where
  pub lines : List (List ℕ)
  pub size : length text ≤ 16777216
  pub are : AreLines text lines
  pub groups : SpellAll lines script.groups
