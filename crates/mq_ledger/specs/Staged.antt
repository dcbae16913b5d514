-- What is staged for an entry, and what stands before a transaction on its queue.
use Rattle.std.specs.Prelude.{◌≡◌, ℕ, List}
use Rattle.mq_blocks.specs.Descriptor.{journal_form}
use Rattle.mq_blocks.specs.declared.geometry.Geometry.{Geometry}
use Rattle.mq_ledger.specs.Items.{Item, bytes_of, said_of, lba_of, next, number_before}
use Rattle.mq_ledger.specs.Plain.{plain_entry}
use Rattle.mq_ledger.specs.declared.staging.Staged.{Staged}
use Rattle.mq_ledger.specs.declared.queue_rows.Row.{Row}
use Rattle.mq_ledger.specs.declared.tx.Tx.{Tx}

-- this is staged for the item of a queue
pub record IsStaged (g : Geometry) (q : ℕ) (i : Item) (s : Staged) : Type 0 where
  pub entry : s.entry ≡ plain_entry (said_of g q i)
  pub tx : s.tx ≡ i.number
  pub lba : s.lba ≡ lba_of g q i.target
  pub block : s.block ≡ bytes_of journal_form i.content

-- these end in this row
pub record IsBehind (r : Row) (txs : List Tx) : Type 0 where
  pub number : r.number ≡ number_before txs
  pub next_is : r.next ≡ next txs
