-- Transactions in the order in which they were rung.
use Rattle.std.specs.Prelude.{◌≡◌, ◌<◌, ◌≤◌, ℕ, Bool, true, false, List, [], ◌∷◌, ◌&&◌, nat_le, if◌then◌else◌}
use Rattle.std.specs.Coded.{×_prop, le_prop}
use Rattle.mq_blocks.specs.Drive.{PortState}
use Rattle.mq_blocks.specs.declared.command.Command.{Command}
use Rattle.mq_pmr.specs.Slots.{AllDone, done_at}
use Rattle.mq_pmr.specs.declared.rungs.Rung.{Rung}
use Rattle.mq_pmr.specs.declared.slots.SlotRecord.{SlotRecord}

-- their ends rise from one count up to another
abbrev pub AreEnds : ℕ → ℕ → List Rung → Type 0
AreEnds low high [] = low ≤ high
AreEnds low high (t ∷ ts) = (low < t.end) × AreEnds t.end high ts

pub AreEnds-prop : (low high : ℕ) (ts : List Rung) → IsProp (AreEnds low high ts)
AreEnds-prop low high [] = le_prop
AreEnds-prop low high (t ∷ ts) = ×_prop le_prop (AreEnds-prop t.end high ts)

-- the end of the last of them; before there is one, this count
abbrev pub last_end : ℕ → List Rung → ℕ
last_end low [] = low
last_end low (t ∷ ts) = last_end t.end ts

-- none of these commands stands below this count
abbrev pub are_from : ℕ → List Command → Bool
are_from low [] = true
are_from low (c ∷ cs) = nat_le low c.count && are_from low cs

-- no command below this count is posted or failed
abbrev pub is_clear : PortState → ℕ → Bool
is_clear s end = are_from end s.posted && are_from end s.failed

-- Of transactions in order: the last one of those that lead and pass a test by their ends, or where
-- none does the one before them all; and those that are left.
abbrev pub last_leading : (ℕ → Bool) → Rung → List Rung → Rung
last_leading passes last [] = last
last_leading passes last (t ∷ ts) = if passes t.end then last_leading passes t ts else last

abbrev pub left_after : (ℕ → Bool) → List Rung → List Rung
left_after passes [] = []
left_after passes (t ∷ ts) = if passes t.end then left_after passes ts else t ∷ ts

-- The test of an end up to a limit shows whether all entries from a count up to that end are done.
pub record TellsDone (passes : ℕ → Bool) (limit : ℕ) (slots : List SlotRecord) (from : ℕ) : Type 0 where
  pub yes : (end : ℕ) → end ≤ limit → AllDone slots from end → passes end ≡ true
  pub no : (end n : ℕ) → end ≤ limit → from ≤ n → n < end → done_at slots n ≡ false → passes end ≡ false

-- From a count and transactions up to a limit, those that lead and are done are passed.
pub record Walks (slots : List SlotRecord) (limit from : ℕ) (last : Rung) (ts : List Rung) (to : ℕ)
    (new : Rung) (left : List Rung) : Type 0 where
  pub up : from ≤ to
  pub all : AllDone slots from to
  pub high : to ≤ limit
  pub low : new.end ≤ to
  pub rises : last.end ≤ new.end
  pub ends : AreEnds new.end limit left
  pub leads : (passes : ℕ → Bool) → TellsDone passes limit slots from → new ≡ last_leading passes last ts
  pub leaves : (passes : ℕ → Bool) → TellsDone passes limit slots from → left ≡ left_after passes ts
