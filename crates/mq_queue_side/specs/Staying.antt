-- What holds of a side whatever is known, and whatever its transactions are: so a call on a side may be
-- made while others draw, complete and write home.
use Rattle.std.specs.Prelude.{ℕ, List}
use Rattle.mq_ledger.specs.KnownJournal.{KnownJournal, LogOk}
use Rattle.mq_ledger.specs.declared.tx.Tx.{Tx}
use Rattle.mq_queue_side.specs.Side.{SideState, IsQueueSide}

-- whatever is known, a side stays one
abbrev pub Stays : SideState → SideState → Type 0
Stays old new =
    (q : ℕ) (k : KnownJournal) (us : List Tx) → LogOk k → IsQueueSide k q us old → IsQueueSide k q us new
