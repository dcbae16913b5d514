-- What a send makes of a side.
use Rattle.std.specs.Prelude.{◌≡◌, ◌⊎◌, ◌<◌, ℕ, ◌+◌, Bool, true, List, [], ◌∷◌, length, None, Some}
use Rattle.mq_blocks.specs.Descriptor.{DescriptorForm}
use Rattle.mq_blocks.specs.Drive.{PortState, after_flush, after_ring}
use Rattle.mq_blocks.specs.Geometry.{zone_of}
use Rattle.mq_blocks.specs.Journal.{is_among}
use Rattle.mq_blocks.specs.Machine.{Writes}
use Rattle.mq_blocks.specs.declared.geometry.Geometry.{Geometry}
use Rattle.mq_ledger.specs.History.{blocks_of}
use Rattle.mq_ledger.specs.Items.{Item, bytes_of, lba_of, item_at, end_of}
use Rattle.mq_ledger.specs.KnownJournal.{KnownJournal, LogOk}
use Rattle.mq_ledger.specs.declared.tx.Tx.{Tx}
use Rattle.mq_pmr.specs.Runs.{Items, is_last, after_some}
use Rattle.mq_queue_side.specs.Commits.{NumberedCommit, commit_of}
use Rattle.mq_queue_side.specs.Side.{SideState, IsQueueSide, IsRung}

-- the blocks of these writes are in the zone of a queue
abbrev pub AreInZone : Geometry → ℕ → Writes → Type 0
AreInZone g q ws = (x : ℕ) → is_among x (blocks_of ws) ≡ true → zone_of g x ≡ Some q

-- ---- the items, against the entries of the pure machine

-- the item is what an entry writes
pub record IsItem (form : DescriptorForm) (g : Geometry) (q tx : ℕ) (e : Item) (i : ℕ × List ℕ)
    (last : Bool) : Type 0 where
  pub number : e.number ≡ tx
  pub lba : lba_of g q e.target ≡ i.0
  pub content : bytes_of form e.content ≡ i.1
  pub commit : e.commit ≡ last

-- the items are what the entries from this count on write, up to the last that was drawn
abbrev pub AreItems : DescriptorForm → Geometry → ℕ → ℕ → List Tx → ℕ → ℕ → Items → Type 0
AreItems form g q from us tx c [] = c ≡ end_of from us
AreItems form g q from us tx c (i ∷ is) =
    IsItem form g q tx (item_at from us c) i (is_last is) × AreItems form g q from us tx (c + 1) is

-- ---- a send

-- The commit's descriptor is written in this form. Its transaction was drawn last on the queue, whose
-- entries begin at a count; nothing of it is staged, and all before it is rung.
pub record IsReadyFrom (form : DescriptorForm) (from : ℕ) (us : List Tx) (s : SideState)
    (n : NumberedCommit) : Type 0 where
  pub t : Tx
  pub ts : List Tx
  pub newest : us ≡ t ∷ ts
  pub commit : n ≡ commit_of form t ts
  pub rung : s.port.doorbell ≡ end_of from ts
  pub none : s.kept ≡ None

abbrev pub IsReady : KnownJournal → ℕ → List Tx → SideState → NumberedCommit → Type 0
IsReady k q us s n = IsReadyFrom k.entries.form (k.from q) us s n

-- whatever is known, the side stays one
abbrev pub Sends : SideState → NumberedCommit → SideState → Type 0
Sends old n new =
    (q : ℕ) (k : KnownJournal) (us : List Tx) → LogOk k → IsReady k q us old n → IsQueueSide k q us old
    → IsQueueSide k q us new

-- all of its items are staged in their order, flushed at once and made visible by one ring
abbrev pub after_send : PortState → ℕ → Items → PortState
after_send p tx items = after_ring (after_flush (after_some p tx (length items) items))

-- what a send that was cut leaves: some of the items are staged, or all, and perhaps flushed
abbrev pub IsCutAt : PortState → ℕ → Items → PortState → Type 0
IsCutAt old tx items new =
    ((n : ℕ) × (n < length items) × (new ≡ after_some old tx n items))
    ⊎ ((new ≡ after_some old tx (length items) items)
    ⊎ (new ≡ after_flush (after_some old tx (length items) items)))

-- whatever is known, all that was drawn is rung
abbrev pub RingsAll : SideState → NumberedCommit → SideState → Type 0
RingsAll old n new =
    (q : ℕ) (k : KnownJournal) (us : List Tx) → LogOk k → IsReady k q us old n → IsQueueSide k q us old
    → IsRung k q us new
