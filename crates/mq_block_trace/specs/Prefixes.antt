-- How many lines of a text stand where the power goes off after some events on the queue's port.
use Rattle.std.specs.Prelude.{◌≡◌, ◌<◌, ◌≤◌, ◌⊎◌, ℕ, zero, suc, ◌+◌, ◌*◌, List, length, Option, Some, None, min}
use Rattle.mq_block_text.specs.Text.{sets_in}
use Rattle.mq_block_text.specs.declared.item.BlockItem.{BlockItem}
use Rattle.mq_block_trace.specs.Lines.{line_at}

-- The events of a line: each of its copies and its descriptor is staged and completed, and there are
-- the flush, the doorbell write, and the store and the flush of the head.
abbrev pub line_events : List BlockItem → ℕ
line_events line = 2 * sets_in line + 6

-- the events of the first n lines
abbrev pub events_of : List (List BlockItem) → ℕ → ℕ
events_of lines zero = 0
events_of lines (suc n) = events_of lines n + line_events (line_at lines n)

-- the places of the journal area, and the entries, that the first n lines take
abbrev pub places_upto : List (List BlockItem) → ℕ → ℕ
places_upto lines zero = 0
places_upto lines (suc n) = places_upto lines n + (sets_in (line_at lines n) + 1)

-- After so many events p lines stand: those whose events end by then, or one more where the next
-- line's end with the next event.
pub record IsReached (lines : List (List BlockItem)) (events p : ℕ) : Type 0 where
  pub within : p ≤ length lines
  pub ends : ((events_of lines p ≤ events) × (p < length lines → events < events_of lines (suc p)))
      ⊎ ((0 < p) × (events + 1 ≡ events_of lines p))

-- the lines that stand where the power goes off after so many events, or at the end of the text
abbrev pub IsPrefixAt : List (List BlockItem) → Option ℕ → ℕ → Type 0
IsPrefixAt lines None p = p ≡ length lines
IsPrefixAt lines (Some events) p = IsReached lines events p

-- the events that happen of a text where the power goes off after so many, or stays on
abbrev pub events_under : List (List BlockItem) → Option ℕ → ℕ
events_under lines None = events_of lines (length lines)
events_under lines (Some cut) = min cut (events_of lines (length lines))
