-- The bytes in the slots of a queue's ring.
use Rattle.std.specs.Prelude.{◌≡◌, ◌<◌, ◌≤◌, ℕ, ◌%◌, List, [], All, slice_index_or}
use Rattle.mq_blocks.specs.Drive.{PortState}
use Rattle.mq_blocks.specs.Limits.{depth}
use Rattle.mq_blocks.specs.declared.command.Command.{Command}
use Rattle.mq_nvme.specs.Entry.{entry_of, lba_of, is_commit}
use Rattle.mq_pmr.specs.Slots.{tx_in}
use Rattle.mq_pmr.specs.declared.slots.SlotRecord.{SlotRecord}

-- the bytes in the slot of a count
abbrev pub bytes_at : List (List ℕ) → ℕ → List ℕ
bytes_at slots n = slice_index_or slots (n % depth) []

-- these are the bytes of a write of this block for this transaction, from this slot
abbrev pub IsWriteOf : List ℕ → ℕ → ℕ → ℕ → Type 0
IsWriteOf bytes tx slot lba =
    bytes ≡ entry_of record { tx = tx; slot = slot; lba = lba; commit = is_commit bytes }

-- the slots of these commands hold their entries
abbrev pub AreHeld : List (List ℕ) → List Command → Type 0
AreHeld slots cs = All (λ c. IsWriteOf (bytes_at slots c.count) c.tx (c.count % depth) c.lba) cs

-- What was rung and isn't passed, and what waits, stands in the slots: at each count from the end of what
-- is done up to the staged end the entry of a write, and of each command that has not ended with success
-- its own.
pub record IsWritten (s : PortState) (slots : List SlotRecord) (from to : ℕ) : Type 0 where
  pub entries : (n : ℕ) → from ≤ n → n < to
      → IsWriteOf (bytes_at s.staged n) (tx_in slots (n % depth)) (n % depth)
      (lba_of (bytes_at s.staged n))
  pub pending : AreHeld s.staged s.pending
  pub posted : AreHeld s.staged s.posted
  pub failed : AreHeld s.staged s.failed
