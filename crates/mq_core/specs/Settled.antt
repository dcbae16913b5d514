-- A history whose front is the greatest number up to which all is done.
use Rattle.std.specs.Prelude.{◌≡◌, ◌<◌, ◌≤◌, ℕ, ◌+◌, true, List, length}
use Rattle.mq_blocks.specs.Drive.{PortState}
use Rattle.mq_ledger.specs.History.{AreNumbered, IsAt, part_of}
use Rattle.mq_ledger.specs.Records.{Ledger}
use Rattle.mq_ledger.specs.State.{is_done}
use Rattle.mq_ledger.specs.declared.tx.Tx.{Tx}

-- the transaction after the front is there, and done
pub record IsNextDone (s : Ledger) (ports : List PortState) : Type 0 where
  pub tx : Tx
  pub before : List Tx
  pub stands : IsAt tx before s.history
  pub number : tx.number ≡ s.front + 1
  pub done : is_done s.starts ports tx before ≡ true

abbrev pub with_front : ℕ → Ledger → Ledger
with_front n l =
    record {
      geometry = l.geometry;
      start = l.start;
      base = l.base;
      starts = l.starts;
      history = l.history;
      front = n;
    }

-- all numbers up to the front are done
pub record IsSettled (l : Ledger) (ports : List PortState) : Type 0 where
  pub numbers : AreNumbered l.base l.history
  pub low : l.base ≤ l.front
  pub high : l.front ≤ l.base + length l.history
  pub done : (t : Tx) (ts : List Tx) → IsAt t ts l.history → t.number ≤ l.front
      → is_done l.starts ports t ts ≡ true

-- and no greater one
abbrev pub settled : List PortState → Ledger → Ledger
settled ports l = with_front (l.base + length (part_of (is_done l.starts ports) l.history)) l

-- each transaction's queue is one of the geometry's
abbrev pub AreOnQueues : Ledger → Type 0
AreOnQueues l = (t : Tx) (ts : List Tx) → IsAt t ts l.history → t.queue < l.geometry.queues
