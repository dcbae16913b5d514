-- Where nobody holds anything: what is known of a journal and what lies in its ports, in parts, and the
-- state of the machine that these parts are together.
use Rattle.std.specs.Prelude.{◌≡◌, ◌<◌, ◌≤◌, ℕ, zero, suc, ◌+◌, ◌-◌, ◌^◌, min, ◌&&◌, ◌||◌, not, Bool, true, false, List, [], ◌∷◌, length, Option, nat_eq, slice_index_or, if◌then◌else◌}
use Rattle.mq_blocks.specs.Descriptor.{IsSound}
use Rattle.mq_blocks.specs.Drive.{PortState}
use Rattle.mq_blocks.specs.Journal.{is_among}
use Rattle.mq_blocks.specs.declared.geometry.Geometry.{Geometry}
use Rattle.mq_ledger.specs.History.{of_queue, IsAt}
use Rattle.mq_ledger.specs.Items.{Entries}
use Rattle.mq_ledger.specs.KnownJournal.{KnownJournal, LogOk, front}
use Rattle.mq_ledger.specs.Sides.{SideOk}
use Rattle.mq_ledger.specs.State.{State, from_at, is_done, port_at, start_map}
use Rattle.mq_ledger.specs.declared.tx.Tx.{Tx}
use Rattle.mq_desk_laws.specs.Bases.{RootStands}

pub record Parts : Type 0 where
  -- what is known, with the start map and the doorbells at the start as lists
  pub geometry : Geometry
  pub entries : Entries
  pub start : List (Option (List ℕ))
  pub base : ℕ
  pub starts : List ℕ
  pub history : List Tx
  pub done : Tx → List Tx → Bool
  pub due : ℕ → ℕ → Bool
  pub word : ℕ
  -- what lies there, and which numbers were acknowledged
  pub ports : List PortState
  pub root : PortState
  pub acknowledged : List ℕ

abbrev pub known : Parts → KnownJournal
known p = record {
  geometry = p.geometry;
  entries = p.entries;
  start = start_map p.start;
  base = p.base;
  from = from_at p.starts;
  history = p.history;
  done = p.done;
  due = p.due;
  word = p.word;
}

-- What holds of each part by itself: the history, the port of each queue with all entries of this queue,
-- the root's port with its bases. All acknowledged numbers are known to be done.
pub record AreParts (p : Parts) : Type 0 where
  pub form : IsSound p.entries.form
  pub log : LogOk (known p)
  pub many : length p.ports ≡ p.geometry.queues
  pub sides : (q : ℕ) → q < p.geometry.queues
      → SideOk (known p) q (of_queue q p.history) (port_at p.ports q)
  pub root : RootStands (known p) p.root
  pub acknowledged : (n : ℕ) → is_among n p.acknowledged ≡ true → n ≤ front (known p)

-- ---- marks

-- words as marks: each number of which it is not known that it is done is at or above its queue's
pub record AreMarks (p : Parts) (marks : List ℕ) : Type 0 where
  pub many : length marks ≡ p.geometry.queues
  pub above : (t : Tx) (ts : List Tx) → IsAt t ts p.history → p.done t ts ≡ false
      → slice_index_or marks t.queue 0 ≤ t.number

-- the mark of a queue whose numbers are all done
abbrev pub unmarked : ℕ
unmarked = 2 ^ 64 - 1

-- the least number of the queue that isn't done
abbrev pub least_undone : (Tx → List Tx → Bool) → ℕ → List Tx → ℕ
least_undone done q [] = unmarked
least_undone done q (t ∷ ts) =
    if nat_eq t.queue q && not (done t ts) then min t.number (least_undone done q ts)
    else least_undone done q ts

-- the marks of a number of queues, from one on
abbrev pub marks_from : (ℕ → ℕ) → ℕ → ℕ → List ℕ
marks_from mark q zero = []
marks_from mark q (suc n) = mark q ∷ marks_from mark (q + 1) n

-- by the flushed heads
abbrev pub least_marks : Parts → List ℕ
least_marks p = marks_from (λ q. least_undone (is_done p.starts p.ports) q p.history) 0 p.geometry.queues

-- a transaction of the queue with this number isn't done
pub record IsUndone (done : Tx → List Tx → Bool) (q n : ℕ) (h : List Tx) : Type 0 where
  pub tx : Tx
  pub before : List Tx
  pub at : IsAt tx before h
  pub own : tx.queue ≡ q
  pub undone : done tx before ≡ false
  pub number : tx.number ≡ n

-- ---- the state

-- with no home write under way
abbrev pub state_with : List ℕ → Parts → State
state_with marks p = record {
  geometry = p.geometry;
  start = p.start;
  base = p.base;
  starts = p.starts;
  history = p.history;
  ports = p.ports;
  root = p.root;
  marks = marks;
  writing = [];
  acknowledged = p.acknowledged;
}

-- with each queue's least number that isn't done as its mark
abbrev pub state : Parts → State
state p = state_with (least_marks p) p

-- the parts of a state, where what its flushed heads and its bases say is what is known
abbrev pub parts_of : Entries → State → Parts
parts_of e s = record {
  geometry = s.geometry;
  entries = e;
  start = s.start;
  base = s.base;
  starts = s.starts;
  history = s.history;
  done = is_done s.starts s.ports;
  due = λ x v. nat_eq v s.root.base || nat_eq v s.root.stored_base;
  word = s.root.base;
  ports = s.ports;
  root = s.root;
  acknowledged = s.acknowledged;
}
