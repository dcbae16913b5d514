-- What the ledger keeps beside its history: a table of the home blocks, and the rows of each queue.
use Rattle.std.specs.Prelude.{◌≡◌, ◌<◌, ◌≤◌, ℕ, zero, suc, ◌+◌, ◌^◌, Bool, true, false, List, [], ◌∷◌, ◌++◌, length, Option, Some, None, reverse, slice_index_or, slice_set, nat_le, if◌then◌else◌}
use Rattle.mq_blocks.specs.Geometry.{homes_of}
use Rattle.mq_blocks.specs.Journal.{number_limit}
use Rattle.mq_blocks.specs.Machine.{Writes}
use Rattle.mq_ledger.specs.History.{writes, map_after, last, last_logged, upto, of_queue, IsAt, AreNumbered}
use Rattle.mq_ledger.specs.Items.{write_at, end_of, next, number_before, descriptor_blocks}
use Rattle.mq_ledger.specs.KnownJournal.{IsTx}
use Rattle.mq_ledger.specs.Records.{Ledger, own, from_of}
use Rattle.mq_ledger.specs.State.{from_at, start_map}
use Rattle.mq_ledger.specs.declared.queue_rows.Row.{Row}
use Rattle.mq_ledger.specs.declared.latest.Latest.{Latest}
use Rattle.mq_ledger.specs.declared.latest.Place.{Place}
use Rattle.mq_ledger.specs.declared.latest.Place.TheVariants.{Free, Start, Written}
use Rattle.mq_ledger.specs.declared.records.Ledger.TheInside.{Inside}
use Rattle.mq_ledger.specs.declared.tx.Tx.{Tx}

-- ---- the table of the home blocks

-- the content of the block stands at this place
abbrev pub Stands : List (Option (List ℕ)) → List Tx → ℕ → Place → Option (List ℕ) → Type 0
Stands start h x Free c = c ≡ None
Stands start h x Start c = c ≡ slice_index_or start x None
Stands start h x (Written n i) c =
    (t : Tx) × (ts : List Tx) × IsAt t ts h × (t.number ≡ n) × (i < writes t)
    × (c ≡ Some (write_at (t.logged ++ t.direct) i).1)

-- what is kept of a block is right after these transactions
pub record IsLatest (start : List (Option (List ℕ))) (base : ℕ) (h : List Tx) (x : ℕ)
    (l : Latest) : Type 0 where
  pub change : l.change ≡ last base h x
  pub logged : l.logged ≡ last_logged base h x
  pub place : Stands start h x l.place (map_after (start_map start) h x)

abbrev pub no_latest : Latest
no_latest = record { change = 0; logged = 0; place = Free }

abbrev pub latest_at : List Latest → ℕ → Latest
latest_at table x = slice_index_or table x no_latest

pub record AreLatest (start : List (Option (List ℕ))) (base : ℕ) (h : List Tx) (homes : ℕ)
    (table : List Latest) : Type 0 where
  pub size : length table ≡ homes
  pub each : (x : ℕ) → x < homes → IsLatest start base h x (latest_at table x)

-- the table with one more change of a block: a copy, or not
abbrev pub put_mark : ℕ → Bool → Place → ℕ → List Latest → List Latest
put_mark n copied place x table =
    slice_set table x
    (record { change = n; logged = (if copied then n else (latest_at table x).logged); place = place })

abbrev pub after_freed : ℕ → List ℕ → List Latest → List Latest
after_freed n [] table = table
after_freed n (x ∷ xs) table = after_freed n xs (put_mark n false Free x table)

-- these writes stand behind `i` others of their transaction
abbrev pub after_writes : ℕ → Bool → ℕ → Writes → List Latest → List Latest
after_writes n copied i [] table = table
after_writes n copied i (w ∷ ws) table =
    after_writes n copied (i + 1) ws (put_mark n copied (Written n i) w.0 table)

abbrev pub after_tx : Tx → List Latest → List Latest
after_tx t table =
    after_writes t.number true 0 t.logged
    (after_writes t.number false (length t.logged) t.direct (after_freed t.number t.freed table))

-- ---- the rows of a queue

-- something for each transaction, where these stand before it
abbrev pub along : {A : Type 0} → (Tx → List Tx → A) → List Tx → List A
along f [] = []
along f (t ∷ ts) = f t ts ∷ along f ts

-- the newest number of these, and the count and the place behind them
abbrev pub row_of : ℕ → List Tx → Row
row_of from txs = record { number = number_before txs; end = end_of from txs; next = next txs }

-- newest first
abbrev pub rows_of : ℕ → List Tx → List Row
rows_of from txs = along (λ t vs. row_of from (t ∷ vs)) txs

abbrev pub no_row : ℕ → Row
no_row from = record { number = 0; end = from; next = 0 }

-- the row before a place, of rows that stand the oldest first
abbrev pub row_before : ℕ → List Row → ℕ → Row
row_before from rows zero = no_row from
row_before from rows (suc k) = slice_index_or rows k (no_row from)

-- the newest row that has it, and all before it: how many they are, of rows the newest first
abbrev pub rows_from : (Row → Bool) → List Row → ℕ
rows_from has [] = 0
rows_from has (r ∷ rs) = if has r then length (r ∷ rs) else rows_from has rs

abbrev pub ends_by : ℕ → Row → Bool
ends_by count r = nat_le r.end count

abbrev pub is_up_to : ℕ → Row → Bool
is_up_to number r = nat_le r.number number

-- ---- the whole

-- the count behind each transaction, newest first
abbrev pub ends_of : List ℕ → List Tx → List ℕ
ends_of starts h =
    along (λ t ts. end_of (from_at starts t.queue)
    (of_queue t.queue ts) + (writes t + descriptor_blocks t)) h

-- The derived data are right.
pub record AreTables (s : Ledger) (newest settled : List Latest) (queue_rows : List (List Row))
    (ends : List ℕ) : Type 0 where
  pub numbers : AreNumbered s.base s.history
  pub limit : s.base + length s.history ≤ number_limit
  pub front_low : s.base ≤ s.front
  pub front_high : s.front ≤ s.base + length s.history
  pub each : (t : Tx) (ts : List Tx) → IsAt t ts s.history → IsTx s.geometry t
  pub start_size : length s.start ≡ homes_of s.geometry
  pub starts_size : length s.starts ≡ s.geometry.queues
  pub newest_is : AreLatest s.start s.base s.history (homes_of s.geometry) newest
  pub settled_is : AreLatest s.start s.base (upto s.front s.history) (homes_of s.geometry) settled
  pub lanes_size : length queue_rows ≡ s.geometry.queues
  pub lanes_are : (q : ℕ) → q < s.geometry.queues
      → slice_index_or queue_rows q [] ≡ reverse (rows_of (from_of s q) (own s q))
  pub ends_are : ends ≡ reverse (ends_of s.starts s.history)
  pub counts : (q : ℕ) → q < s.geometry.queues → end_of (from_of s q) (own s q) ≤ number_limit
  pub places : (q : ℕ) → q < s.geometry.queues → next (own s q) ≤ 2 ^ 62

abbrev pub ledger_of : Inside → Ledger
ledger_of l =
    record {
      geometry = l.geometry;
      start = l.start.items;
      base = l.base;
      starts = l.starts.items;
      history = reverse l.history.items;
      front = l.front;
    }

abbrev pub HasTables : Inside → Type 0
HasTables l = AreTables (ledger_of l) l.newest.items l.settled.items l.queue_rows.items l.ends.items
