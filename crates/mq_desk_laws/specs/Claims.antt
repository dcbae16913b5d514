-- What is known to be done, queue by queue.
use Rattle.std.specs.Prelude.{◌≡◌, ◌<◌, ◌≤◌, ℕ, true, List}
use Rattle.mq_ledger.specs.History.{IsAt}
use Rattle.mq_ledger.specs.KnownJournal.{KnownJournal}
use Rattle.mq_ledger.specs.declared.tx.Tx.{Tx}

-- the queue's numbers up to this one are known to be done
abbrev pub IsDoneTo : KnownJournal → ℕ → ℕ → Type 0
IsDoneTo k q n =
    (t : Tx) (ts : List Tx) → IsAt t ts k.history → t.queue ≡ q → t.number ≤ n → k.done t ts ≡ true

-- those of each of the first queues
abbrev pub AreDoneTo : KnownJournal → ℕ → ℕ → Type 0
AreDoneTo k n queues = (q : ℕ) → q < queues → IsDoneTo k q n
