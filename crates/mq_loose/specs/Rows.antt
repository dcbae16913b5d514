-- What the machine keeps of each transaction, and the flags of settled ones.
use Rattle.std.specs.Prelude.{◌≡◌, ◌<◌, ◌≤◌, ℕ, ◌+◌, ◌-◌, Bool, true, false, List, [], ◌∷◌, length, nat_eq, nat_le, slice_index_or, if◌then◌else◌}
use Rattle.mq_blocks.specs.Drive.{PortState}
use Rattle.mq_blocks.specs.Journal.{is_among}
use Rattle.mq_ledger.specs.History.{writes, last, of_queue, IsAt}
use Rattle.mq_ledger.specs.Items.{descriptor_blocks, descriptor_for, end_of}
use Rattle.mq_ledger.specs.State.{from_at, port_at}
use Rattle.mq_ledger.specs.Tables.{along}
use Rattle.mq_ledger.specs.declared.tx.Tx.{Tx}
use Rattle.mq_loose_order.specs.Dependence.{depends_on, with_last}
use Rattle.mq_loose.specs.declared.machine.rows.LooseRow.{LooseRow}

-- of a transaction, where these stand before it
abbrev pub row_for : ℕ → List ℕ → Tx → List Tx → LooseRow
row_for base starts t ts = record {
  queue = t.queue;
  end = end_of (from_at starts t.queue) (of_queue t.queue ts) + (writes t + descriptor_blocks t);
  descriptor = descriptor_for t (of_queue t.queue ts);
  deps = depends_on base t ts;
}

-- newest first
abbrev pub loose_rows : ℕ → List ℕ → List Tx → List LooseRow
loose_rows base starts h = along (row_for base starts) h

-- the number of a queue's newest, of rows the newest first, or 0
abbrev pub newest_number : ℕ → List LooseRow → ℕ
newest_number q [] = 0
newest_number q (r ∷ rs) = if nat_eq r.queue q then r.descriptor.number else newest_number q rs

-- each is of one of so many queues, and depends on earlier ones above the base
pub record AreRows (base : ℕ) (rows : List LooseRow) (queues : ℕ) : Type 0 where
  pub queue : (k : ℕ) (d : LooseRow) → k < length rows → (slice_index_or rows k d).queue < queues
  pub deps : (k n : ℕ) (d : LooseRow) → k < length rows
      → is_among n (slice_index_or rows k d).deps ≡ true → (base < n) × (n ≤ base + k)

-- the flushed head of its queue is past it
abbrev pub is_past : LooseRow → List PortState → Bool
is_past r ports = nat_le r.end (port_at ports r.queue).head

-- the flag of a number, of those of the numbers above the base
abbrev pub flag_of : ℕ → List Bool → ℕ → Bool
flag_of base flags = λ n. slice_index_or flags (n - base - 1) false

-- a transaction of the history has this number
pub record HasNumber (n : ℕ) (h : List Tx) : Type 0 where
  pub tx : Tx
  pub before : List Tx
  pub stands : IsAt tx before h
  pub number : tx.number ≡ n

-- these rising numbers with the last one above the base that changed each of the blocks
abbrev pub with_lasts : ℕ → List ℕ → List Tx → List ℕ → List ℕ
with_lasts base [] ts ns = ns
with_lasts base (x ∷ xs) ts ns = with_last base (last base ts x) (with_lasts base xs ts ns)
