-- What `mqfs blocks` makes of the bytes of a file.
use Rattle.std.specs.Prelude.{ℕ, List, [], ◌∷◌, ◌++◌, codes}
use Rattle.mq_block_trace.specs.Lines.{map_after, live_from, named}
use Rattle.mq_block_text.specs.Refusals.{cause_name}
use Rattle.mq_block_text.specs.Text.{IsTextOf, IsGoodText, number_text, printed}
use Rattle.mq_block_text.specs.declared.item.BlockItem.{BlockItem}
use Rattle.mq_block_text.specs.declared.refusal.BlockTextCause.{BlockTextCause}

-- the bytes spell these lines, which are good
pub record IsBlockText (bytes : List ℕ) (lines : List (List BlockItem)) : Type 0 where
  pub spelled : IsTextOf bytes lines
  pub good : IsGoodText lines

-- what is printed where the first p lines stand: their number, and the blocks of the map after them
abbrev pub output_of : List (List BlockItem) → ℕ → List ℕ
output_of lines p = printed p (live_from (map_after lines p) 0 named)

-- the line of a text that is refused, as `blocks line 1: Block`
abbrev pub refused_line : ℕ → BlockTextCause → List ℕ
refused_line line cause =
    codes "blocks line " ++ (number_text line ++ (codes ": " ++ (cause_name cause ++ 10 ∷ [])))
