-- How many events a side makes.
use Rattle.std.specs.Prelude.{◌⊎◌, ◌≤◌, ℕ, ◌+◌, ◌*◌, ◌-◌, ◌^◌, List, length, nat_eq, if◌then◌else◌}
use Rattle.mq_blocks.specs.Drive.{staged_end}
use Rattle.mq_ledger.specs.Items.{end_of, total}
use Rattle.mq_ledger.specs.KnownJournal.{KnownJournal, LogOk}
use Rattle.mq_ledger.specs.declared.tx.Tx.{Tx}
use Rattle.mq_queue_side.specs.Commits.{NumberedCommit}
use Rattle.mq_queue_side.specs.Side.{SideState, IsQueueSide}
use Rattle.mq_queue_side.specs.Sent.{IsReady}

-- the most events for these transactions: 2n + 4 for one of n entries
abbrev pub most_events : List Tx → ℕ
most_events us = 2 * total us + 4 * length us

-- what waits until two counts are one
abbrev pub unless_same : ℕ → ℕ → ℕ → ℕ
unless_same a b n = if nat_eq a b then 0 else n

-- The events that are still to come: two for each entry that isn't staged, and one for each that is staged
-- and not ended; flush, ring and two of the head for a transaction that isn't rung; two of the head for
-- each that is rung and not passed; and two where the head is behind what is passed.
abbrev pub ahead : ℕ → SideState → ℕ
ahead end s =
    (2 * (end - staged_end s.port) + (length s.port.pending + length s.port.posted))
    + (unless_same s.port.doorbell end 4 + (2 * length s.rung + unless_same s.port.head s.passed.end 2))

-- The events that have happened, with those that are still to come, are at most those at the start and as
-- many as the transactions and the faults allow. This holds until there are as many faults as a count of
-- 64 bits can hold.
abbrev pub IsCounted : ℕ → KnownJournal → ℕ → List Tx → SideState → Type 0
IsCounted first k q us s =
    (2 ^ 64 - 1 ≤ length s.faults)
    ⊎ (s.port.events + ahead (end_of (k.from q) us) s ≤ first + most_events us + length s.faults)

-- whatever is known, a call keeps the count
abbrev pub KeepsCount : SideState → SideState → Type 0
KeepsCount old new =
    (first q : ℕ) (k : KnownJournal) (us : List Tx) → LogOk k → IsQueueSide k q us old
    → IsCounted first k q us old → IsCounted first k q us new

abbrev pub SendCounts : SideState → NumberedCommit → SideState → Type 0
SendCounts old n new =
    (first q : ℕ) (k : KnownJournal) (us : List Tx) → LogOk k → IsReady k q us old n
    → IsQueueSide k q us old → IsCounted first k q us old → IsCounted first k q us new
