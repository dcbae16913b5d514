-- How the queues stand to a start of the loose machine and to the transactions since.
use Rattle.std.specs.Prelude.{◌≡◌, ◌<◌, ◌≤◌, ◌^◌, ℕ, ◌+◌, false, List, [], length, reverse, None, nat_eq}
use Rattle.mq_blocks.specs.Machine.{Writes}
use Rattle.mq_ledger.specs.History.{of_queue, IsAt}
use Rattle.mq_ledger.specs.KnownJournal.{KnownJournal, LogOk}
use Rattle.mq_ledger.specs.Sides.{RootOk}
use Rattle.mq_ledger.specs.State.{State, from_at, is_done, start_map}
use Rattle.mq_ledger.specs.Written.{entries_of, journal_entries}
use Rattle.mq_ledger.specs.declared.tx.Tx.{Tx}
use Rattle.mq_loose.specs.Guards.{IsLooseStart}
use Rattle.mq_loose.specs.Rows.{flag_of, loose_rows}
use Rattle.mq_loose.specs.Safe.{IsPlain}
use Rattle.mq_loose_order.specs.Dependence.{closure, deps_of}
use Rattle.mq_loose_order.specs.Form.{loose_form}
use Rattle.mq_queue_side.specs.Side.{IsQueueSide, IsRung}
use Rattle.mq_queue_side.specs.Stored.{rows_for}
use Rattle.mq_loose_queues.specs.Changes.{AreChanges}
use Rattle.mq_loose_queues.specs.Queues.{QueuesState, at_queue, ports_of}

-- a commit as a transaction
abbrev pub loose_tx : (number queue : ℕ) → Writes → (frees : List ℕ) → Tx
loose_tx number queue ws frees = record {
  number = number;
  queue = queue;
  logged = ws;
  direct = [];
  revoked = [];
  freed = frees;
}

-- The machine's state, where these transactions were drawn since its start and these numbers acknowledged.
abbrev pub state_over : State → List Tx → List ℕ → QueuesState → State
state_over s h acknowledged v = record s { history = h; ports = ports_of v; root = v.root; acknowledged = acknowledged }

-- What is known of the journal. Nothing is taken to be done, so the contents at the base are due at home: no
-- call writes a home block.
abbrev pub known_over : State → List Tx → KnownJournal
known_over s h = record {
  geometry = s.geometry;
  entries = entries_of (loose_form (deps_of s.base h));
  start = start_map s.start;
  base = s.base;
  from = from_at s.starts;
  history = h;
  done = λ t ts. false;
  due = λ x v. nat_eq v s.base;
  word = s.base;
}

-- the flags say of each transaction whether it is settled
pub record AreFlags (s : State) (h : List Tx) (v : QueuesState) : Type 0 where
  pub whole : length v.flags ≡ length h
  pub each : (n : ℕ) → s.base < n → n ≤ s.base + length h
      → flag_of s.base v.flags n ≡ closure (is_done s.starts (ports_of v)) s.base h n

-- bounds at the start, of which none is reached before an area is full
pub record IsLow (s : State) : Type 0 where
  pub base : s.base ≤ 2 ^ 62
  pub rung : (q : ℕ) → q < s.geometry.queues → from_at s.starts q ≤ 2 ^ 62

-- The queues since a start of the machine, by these transactions.
pub record IsJournal (s : State) (h : List Tx) (v : QueuesState) : Type 0 where
  pub start : IsLooseStart journal_entries s
  pub low : IsLow s
  pub geometry : v.geometry ≡ s.geometry
  -- nothing happens at the root
  pub root_is : v.root ≡ s.root
  pub root : RootOk (known_over s h) s.root
  pub plain : (t : Tx) (ts : List Tx) → IsAt t ts h → IsPlain t
  pub log : LogOk (known_over s h)
  pub count : length v.sides ≡ s.geometry.queues
  pub sides : (q : ℕ) → q < s.geometry.queues
      → IsQueueSide (known_over s h) q (of_queue q h) (at_queue v q).side
  -- unless a queue keeps a failure, all that was drawn on it is rung
  pub rung : (q : ℕ) → q < s.geometry.queues → (at_queue v q).side.kept ≡ None
      → IsRung (known_over s h) q (of_queue q h) (at_queue v q).side
  pub stored : (q : ℕ) → q < s.geometry.queues → (at_queue v q).rows ≡ rows_for (of_queue q h)
  pub changes : AreChanges s.geometry s.start s.base h v.changes
  pub rows : v.rows ≡ reverse (loose_rows s.base s.starts h)
  pub flags : AreFlags s h v
