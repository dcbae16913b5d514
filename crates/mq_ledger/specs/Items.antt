-- The entries of a queue: the copies of a transaction's logged blocks in the journal area, its direct
-- blocks at home, and its descriptor, whose entry is the commit request.
--
-- How an entry is written in 64 bytes, and a descriptor in its blocks, is left open here: all that counts
-- is that what was written is read again.
use Rattle.std.specs.Prelude.{◌≡◌, ◌<◌, ◌≤◌, ℕ, ◌+◌, ◌-◌, ◌^◌, Bool, true, false, List, [], ◌∷◌, length, Option, Some, nat_lt, nat_le, slice_index_or, if◌then◌else◌}
use Rattle.mq_blocks.specs.Descriptor.{Descriptor, DescriptorForm, further_block, further_for, last_block}
use Rattle.mq_blocks.specs.Limits.{depth}
use Rattle.mq_blocks.specs.Geometry.{area_lba, home_lba}
use Rattle.mq_blocks.specs.Journal.{Reading, WriteFields}
use Rattle.mq_blocks.specs.Machine.{Writes}
use Rattle.mq_blocks.specs.declared.command.Command.{Command}
use Rattle.mq_blocks.specs.declared.geometry.Geometry.{Geometry}
use Rattle.mq_ledger.specs.History.{blocks_of, writes}
use Rattle.mq_ledger.specs.declared.tx.Tx.{Tx}

-- how entries are written, for a slot, and how they are read; and the form of descriptors
pub record Entries : Type 0 where
  pub entry : ℕ → WriteFields → List ℕ
  pub says : List ℕ → Option WriteFields
  pub form : DescriptorForm

abbrev pub reading_of : Entries → Reading
reading_of e = record { says = e.says; form = e.form }

-- a slot, and what an entry may say in it
pub record MaySay (n : ℕ) (s : WriteFields) : Type 0 where
  pub slot : n < depth
  pub number_low : 1 ≤ s.0
  pub number_high : s.0 < 2 ^ 64
  pub lba : s.1 < 2 ^ 64

-- what was written is read again
abbrev pub AreRead : Entries → Type 0
AreRead e = (slot : ℕ) (s : WriteFields) → MaySay slot s → e.says (e.entry slot s) ≡ Some s

-- what an entry writes: a place of its queue's journal area, or a home block
pub data Target : Type 0 where
  AtPlace : ℕ → Target
  AtHome : ℕ → Target

-- what it writes there: these bytes, or a block of a descriptor, its last or its further one
pub data ItemContent : Type 0 where
  Bytes : List ℕ → ItemContent
  LastBlock : Descriptor → ItemContent
  FurtherBlock : Descriptor → ItemContent

abbrev pub bytes_of : DescriptorForm → ItemContent → List ℕ
bytes_of form (Bytes bytes) = bytes
bytes_of form (LastBlock d) = last_block form form.version d
bytes_of form (FurtherBlock d) = further_block form form.version d

pub record Item : Type 0 where
  pub number : ℕ
  pub commit : Bool
  pub target : Target
  pub content : ItemContent

abbrev pub no_item : Item
no_item = record { number = 0; commit = false; target = AtPlace 0; content = Bytes [] }

abbrev pub lba_of : Geometry → ℕ → Target → ℕ
lba_of g q (AtPlace place) = area_lba g q place
lba_of g q (AtHome x) = home_lba g x

-- what its entry says
abbrev pub said_of : Geometry → ℕ → Item → WriteFields
said_of g q i = (i.number, lba_of g q i.target, i.commit)

-- its write command
abbrev pub command_of : DescriptorForm → Geometry → ℕ → ℕ → Item → Command
command_of form g q c i =
    record { count = c; tx = i.number; lba = lba_of g q i.target; block = bytes_of form i.content }

-- how many further blocks its descriptor has, beside the last
abbrev pub further_blocks : Tx → ℕ
further_blocks t = further_for (length t.logged + length t.revoked)

-- how many blocks of the journal area its descriptor takes, each with an entry
abbrev pub descriptor_blocks : Tx → ℕ
descriptor_blocks t = further_blocks t + 1

-- how many entries the transactions of a queue have
abbrev pub total : List Tx → ℕ
total [] = 0
total (t ∷ ts) = total ts + (writes t + descriptor_blocks t)

-- the count behind their last entry, where the queue begins at `from`
abbrev pub end_of : ℕ → List Tx → ℕ
end_of from ts = from + total ts

-- the place behind theirs
abbrev pub next : List Tx → ℕ
next [] = 0
next (t ∷ ts) = next ts + (length t.logged + descriptor_blocks t)

-- where its descriptor's last block stands, where these stand before it on its queue
abbrev pub place_for : Tx → List Tx → ℕ
place_for t txs = next txs + (length t.logged + further_blocks t)

-- number and place of their last descriptor
abbrev pub number_before : List Tx → ℕ
number_before [] = 0
number_before (t ∷ ts) = t.number

abbrev pub place_before : List Tx → ℕ
place_before [] = 0
place_before (t ∷ ts) = place_for t ts

-- of a transaction, where these stand before it on its queue
abbrev pub descriptor_for : Tx → List Tx → Descriptor
descriptor_for t txs = record {
  queue = t.queue;
  number = t.number;
  place = place_for t txs;
  prev_place = place_before txs;
  prev_number = number_before txs;
  logged = blocks_of t.logged;
  revoked = t.revoked;
}

abbrev pub no_write : ℕ × List ℕ
no_write = (0, [])

abbrev pub write_at : Writes → ℕ → ℕ × List ℕ
write_at ws i = slice_index_or ws i no_write

abbrev pub copy_item : Tx → List Tx → ℕ → Item
copy_item t txs i =
    record {
      number = t.number;
      commit = false;
      target = AtPlace (next txs + i);
      content = Bytes (write_at t.logged i).1;
    }

abbrev pub direct_item : Tx → ℕ → Item
direct_item t i =
    record {
      number = t.number;
      commit = false;
      target = AtHome (write_at t.direct i).0;
      content = Bytes (write_at t.direct i).1;
    }

abbrev pub commit_item : Tx → List Tx → Item
commit_item t txs =
    record {
      number = t.number;
      commit = true;
      target = AtPlace (place_for t txs);
      content = LastBlock (descriptor_for t txs);
    }

-- the blocks of its descriptor: the last is the commit request
abbrev pub descriptor_item : Tx → List Tx → ℕ → Item
descriptor_item t txs i = record {
  number = t.number;
  commit = nat_le (further_blocks t) i;
  target = AtPlace (next txs + (length t.logged + i));
  content = if nat_lt i (further_blocks t) then FurtherBlock (descriptor_for t txs)
      else LastBlock (descriptor_for t txs);
}

-- its i-th entry
abbrev pub item_of : Tx → List Tx → ℕ → Item
item_of t txs i =
    if nat_lt i (length t.logged)
    then copy_item t txs i
    else (if nat_lt i (writes t) then direct_item t (i - length t.logged)
    else descriptor_item t txs (i - writes t))

-- the entry of a count
abbrev pub item_at : ℕ → List Tx → ℕ → Item
item_at from [] c = no_item
item_at from (t ∷ txs) c =
    if nat_lt c (end_of from txs) then item_at from txs c else item_of t txs (c - end_of from txs)

-- the transactions of a queue whose entries stand below the count
abbrev pub below : ℕ → ℕ → List Tx → List Tx
below from h [] = []
below from h (t ∷ txs) = if nat_le (end_of from (t ∷ txs)) h then t ∷ txs else below from h txs

-- no transaction's entries stand on both sides of the count
abbrev pub IsEnd : ℕ → List Tx → ℕ → Type 0
IsEnd from txs h = end_of from (below from h txs) ≡ h
