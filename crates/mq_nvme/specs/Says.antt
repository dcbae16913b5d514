-- What an entry says of the journal.
use Rattle.std.specs.Prelude.{ℕ, List, Bool, Option, Some, None}
use Rattle.mq_blocks.specs.Descriptor.{journal_form}
use Rattle.mq_blocks.specs.Journal.{Reading}
use Rattle.mq_nvme.specs.Entry.{tx_of, lba_of, is_commit, refusal_of}
use Rattle.mq_nvme.specs.declared.write.EntryRefusal.{EntryRefusal}

abbrev pub said : List ℕ → Option EntryRefusal → Option (ℕ × ℕ × Bool)
said e None = Some (tx_of e, lba_of e, is_commit e)
said e (Some r) = None

-- of the entry of a write, the transaction's number, the Lba, and whether it is the transaction's
-- last; of any other bytes nothing
unfoldable pub says : List ℕ → Option (ℕ × ℕ × Bool)
says e = said e (refusal_of e)

-- how the journal is read
abbrev pub journal_reading : Reading
journal_reading = record { says = says; form = journal_form }
