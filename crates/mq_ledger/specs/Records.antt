-- A history with what it starts from, and up to where it is done.
use Rattle.std.specs.Prelude.{◌≡◌, ◌<◌, ◌≤◌, ℕ, ◌+◌, ◌^◌, true, List, [], ◌∷◌, length, Option, Some, None, replicate}
use Rattle.mq_blocks.specs.Journal.{is_among, number_limit}
use Rattle.mq_blocks.specs.declared.geometry.Geometry.{Geometry}
use Rattle.mq_ledger.specs.History.{blocks_of, writes, map_after, last, last_logged, of_queue, IsAt}
use Rattle.mq_ledger.specs.Items.{end_of, descriptor_blocks, place_for}
use Rattle.mq_ledger.specs.KnownJournal.{KnownJournal, IsTx, front}
use Rattle.mq_ledger.specs.State.{from_at, start_map}
use Rattle.mq_ledger.specs.declared.queue_rows.QueueEnd.{QueueEnd}
use Rattle.mq_ledger.specs.declared.tx.Tx.{Tx}

pub record Ledger : Type 0 where
  pub geometry : Geometry
  -- the map and the base at the start, and the doorbell of each queue there
  pub start : List (Option (List ℕ))
  pub base : ℕ
  pub starts : List ℕ
  -- the newest transaction first
  pub history : List Tx
  -- all numbers up to it are done
  pub front : ℕ

-- the transactions of a queue
abbrev pub own : Ledger → ℕ → List Tx
own s q = of_queue q s.history

abbrev pub from_of : Ledger → ℕ → ℕ
from_of s q = from_at s.starts q

-- What a transaction needs before it can follow the history: the next number, and counts and places
-- that stay small.
pub record HasPlace (s : Ledger) (t : Tx) : Type 0 where
  pub form : IsTx s.geometry t
  pub number : t.number ≡ s.base + length s.history + 1
  pub limit : t.number ≤ number_limit
  pub counts : end_of (from_of s t.queue) (own s t.queue) + (writes t + descriptor_blocks t) ≤ number_limit
  pub places : place_for t (own s t.queue) < 2 ^ 62

-- the last change of the block logged it
abbrev pub LogsLast : Ledger → ℕ → Type 0
LogsLast s x =
    (t : Tx) (ts : List Tx) → IsAt t ts s.history → t.number ≡ last s.base s.history x
    → is_among x (blocks_of t.logged) ≡ true

-- each transaction of the queue whose entries reach past the head has a number at or above the mark
abbrev pub IsClear : Ledger → ℕ → ℕ → ℕ → Type 0
IsClear s q head low =
    (t : Tx) (ts : List Tx) → IsAt t ts s.history → t.queue ≡ q
    → head < end_of (from_of s q) (of_queue q ts) + (writes t + descriptor_blocks t) → low ≤ t.number

-- the transaction after the front is there, and ends here
pub record IsNextEnd (s : Ledger) (e : QueueEnd) : Type 0 where
  pub tx : Tx
  pub before : List Tx
  pub stands : IsAt tx before s.history
  pub number : tx.number ≡ s.front + 1
  pub queue : e.queue ≡ tx.queue
  pub within : e.queue < s.geometry.queues
  pub count : e.count
      ≡ end_of (from_of s tx.queue) (of_queue tx.queue before) + (writes tx + descriptor_blocks tx)

-- what is known of the journal is this history, done up to this front
pub record IsKnown (s : Ledger) (word : ℕ) (k : KnownJournal) : Type 0 where
  pub geometry : k.geometry ≡ s.geometry
  pub start : k.start ≡ start_map s.start
  pub base : k.base ≡ s.base
  pub history : k.history ≡ s.history
  pub front_is : front k ≡ s.front
  pub word_is : k.word ≡ word

-- what the code keeps of a history's start: nothing is in it, and no queue has an entry
abbrev pub start_ledger : Geometry → List (Option (List ℕ)) → ℕ → Ledger
start_ledger g blocks base =
    record {
      geometry = g;
      start = blocks;
      base = base;
      starts = replicate g.queues 0;
      history = [];
      front = base;
    }

abbrev pub push_tx : Tx → Ledger → Ledger
push_tx t s =
    record {
      geometry = s.geometry;
      start = s.start;
      base = s.base;
      starts = s.starts;
      history = t ∷ s.history;
      front = s.front;
    }

abbrev pub settle_next : Ledger → Ledger
settle_next s =
    record {
      geometry = s.geometry;
      start = s.start;
      base = s.base;
      starts = s.starts;
      history = s.history;
      front = s.front + 1;
    }

-- ---- the guard of a draw, by the ledger

-- all of these have it
abbrev pub Every : (ℕ → Type 0) → List ℕ → Type 0
Every Has xs = (x : ℕ) → is_among x xs ≡ true → Has x

abbrev pub IsTaken : Ledger → ℕ → Type 0
IsTaken s x = (block : List ℕ) × (map_after (start_map s.start) s.history x ≡ Some block)

-- a block may be written directly by a transaction that revokes these
pub record IsOpen (s : Ledger) (word : ℕ) (revoked : List ℕ) (x : ℕ) : Type 0 where
  pub free : map_after (start_map s.start) s.history x ≡ None
  pub settled : last s.base s.history x ≤ s.front
  pub revoked_is : word < last_logged s.base s.history x → is_among x revoked ≡ true
