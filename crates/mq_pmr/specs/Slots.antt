-- What a queue notes of the entries in its slots.
use Rattle.std.specs.Prelude.{◌≡◌, ◌<◌, ◌≤◌, ℕ, ◌%◌, Bool, true, false, List, slice_index_or}
use Rattle.mq_blocks.specs.Limits.{depth}
use Rattle.mq_pmr.specs.declared.slots.SlotRecord.{SlotRecord}

-- what is noted of an entry before there is one
abbrev pub blank : SlotRecord
blank = record { tx = 0; done = false }

-- the number of the transaction of the entry in a slot
abbrev pub tx_in : List SlotRecord → ℕ → ℕ
tx_in slots k = (slice_index_or slots k blank).tx

-- the command of the entry at a count has ended with success
abbrev pub done_at : List SlotRecord → ℕ → Bool
done_at slots n = (slice_index_or slots (n % depth) blank).done

-- so have those of all entries from one count up to another
abbrev pub AllDone : List SlotRecord → ℕ → ℕ → Type 0
AllDone slots from to = (n : ℕ) → from ≤ n → n < to → done_at slots n ≡ true
