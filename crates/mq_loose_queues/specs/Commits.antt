-- A commit: why it is refused, and what it leaves.
use Rattle.std.specs.Prelude.{◌≡◌, ◌≢◌, ◌<◌, ◌≤◌, ℕ, ◌+◌, ◌-◌, true, List, ◌∷◌, length, None, Some, Result, Ok, Err}
use Rattle.mq_blocks.specs.Descriptor.{AreApart, AreRising}
use Rattle.mq_blocks.specs.Drive.{staged_end}
use Rattle.mq_blocks.specs.Geometry.{homes_of}
use Rattle.mq_blocks.specs.Journal.{is_among}
use Rattle.mq_blocks.specs.Limits.{usable_depth}
use Rattle.mq_blocks.specs.Machine.{Writes}
use Rattle.mq_ledger.specs.History.{blocks_of}
use Rattle.mq_ledger.specs.State.{State, port_at}
use Rattle.mq_ledger.specs.declared.tx.Tx.{Tx}
use Rattle.mq_loose_order.specs.Form.{loose_limit}
use Rattle.mq_drive.specs.Steps.{Gains, PowerOff}
use Rattle.mq_pmr.specs.Runs.{Items}
use Rattle.mq_queue_side.specs.Sent.{IsCutAt, after_send}
use Rattle.mq_queue_side.specs.Stored.{next_in}
use Rattle.mq_queue_side.specs.declared.answers.Why.{Why}
use Rattle.mq_queue_side.specs.declared.answers.Why.TheVariants as why
use Rattle.mq_loose_queues.specs.Changes.{change_at}
use Rattle.mq_loose_queues.specs.Journal.{IsJournal, loose_tx}
use Rattle.mq_loose_queues.specs.Queues.{QueuesState, StoredSide, at_queue, next_number, ports_of}
use Rattle.mq_loose_queues.specs.declared.refusal.LooseRefusal.{LooseRefusal}
use Rattle.mq_loose_queues.specs.declared.refusal.LooseRefusal.TheVariants.{Stopped, TooLarge, Area, Ring, OutOfMemory, Off}

-- ---- when it may be made

-- the queue and all blocks are the geometry's; no block stands twice, and what is freed is in the map
pub record IsRequest (v : QueuesState) (q : ℕ) (ws : Writes) (frees : List ℕ) : Type 0 where
  pub queue : q < v.geometry.queues
  pub writes : AreRising 0 (homes_of v.geometry) (blocks_of ws)
  pub frees_rise : AreRising 0 (homes_of v.geometry) frees
  pub apart : AreApart frees (blocks_of ws)
  pub there : (x : ℕ) → is_among x frees ≡ true → (change_at v.root.base v.changes x).is_there ≡ true

-- The copies and one descriptor have room in the area beside those of the queue's transactions, all of which are
-- above the base.
abbrev pub FitsArea : QueuesState → ℕ → ℕ → Type 0
FitsArea v q writes = next_in (at_queue v q).rows + (writes + 1) ≤ v.geometry.area

-- the entries have room in the ring
abbrev pub FitsRing : StoredSide → ℕ → Type 0
FitsRing s writes = writes + 1 ≤ usable_depth - (staged_end s.side.port - s.side.port.head)

-- a commit of so many writes and frees
pub record MayCommit (v : QueuesState) (q writes frees : ℕ) : Type 0 where
  pub runs : (at_queue v q).side.kept ≡ None
  pub few : writes + frees ≤ loose_limit
  pub area : FitsArea v q writes
  pub ring : FitsRing (at_queue v q) writes

-- the causes before the draw, each where those before it don't hold
abbrev pub IsRefusedFor : QueuesState → (q writes frees : ℕ) → LooseRefusal → Type 0
IsRefusedFor v q writes frees (Stopped tx) = (w : Why) × ((at_queue v q).side.kept ≡ Some (tx, w))
IsRefusedFor v q writes frees (TooLarge count limit) =
    ((at_queue v q).side.kept ≡ None) × (loose_limit < count) × (count ≡ writes + frees) × (limit ≡ loose_limit)
IsRefusedFor v q writes frees Area =
    ((at_queue v q).side.kept ≡ None) × (writes + frees ≤ loose_limit) × (FitsArea v q writes → ⊥)
IsRefusedFor v q writes frees Ring =
    ((at_queue v q).side.kept ≡ None) × (writes + frees ≤ loose_limit) × FitsArea v q writes
    × (FitsRing (at_queue v q) writes → ⊥)
IsRefusedFor v q writes frees OutOfMemory = MayCommit v q writes frees
IsRefusedFor v q writes frees (Off tx) = ⊥

-- ---- what it leaves

-- no flushed head goes back
abbrev pub HeadsStay : QueuesState → QueuesState → Type 0
HeadsStay old new = (q : ℕ) → (port_at (ports_of old) q).head ≤ (port_at (ports_of new) q).head

-- One more transaction was drawn, on this queue. Whatever the queues' journal was, it has the transaction then.
pub record IsDrawn (old : QueuesState) (q : ℕ) (ws : Writes) (frees : List ℕ) (new : QueuesState) : Type 0 where
  pub may : MayCommit old q (length ws) (length frees)
  pub journal : (s : State) (h : List Tx) → IsJournal s h old
      → IsJournal s (loose_tx (next_number old) q ws frees ∷ h) new
  pub root : new.root ≡ old.root
  pub root_faults : new.root_faults ≡ old.root_faults
  pub others : (r : ℕ) → r ≢ q → at_queue new r ≡ at_queue old r
  pub count : length new.sides ≡ length old.sides
  pub numbers : length new.rows ≡ length old.rows + 1
  pub heads : HeadsStay old new

-- All of its entries are staged, flushed at once, and rung at once.
pub record IsRungOn (old : StoredSide) (ws : Writes) (tx : ℕ) (new : StoredSide) : Type 0 where
  pub items : Items
  pub count : length items ≡ length ws + 1
  pub port : new.side.port ≡ after_send old.side.port tx items
  pub kept : new.side.kept ≡ None
  pub faults : new.side.faults ≡ old.side.faults

-- some of that happened, and no ring
pub record IsCutOn (old : StoredSide) (ws : Writes) (tx : ℕ) (new : StoredSide) : Type 0 where
  pub items : Items
  pub count : length items ≡ length ws + 1
  pub port : IsCutAt old.side.port tx items new.side.port
  pub kept : new.side.kept ≡ Some (tx, why.Off)
  pub gained : Gains PowerOff old.side.faults new.side.faults

-- a refusal before the draw leaves everything as it was
abbrev pub Commits : QueuesState → ℕ → Writes → List ℕ → Result ℕ LooseRefusal → QueuesState → Type 0
Commits old q ws frees (Ok n) new =
    (n ≡ next_number old) × IsDrawn old q ws frees new × IsRungOn (at_queue old q) ws n (at_queue new q)
Commits old q ws frees (Err (Off tx)) new =
    (tx ≡ next_number old) × IsDrawn old q ws frees new × IsCutOn (at_queue old q) ws tx (at_queue new q)
Commits old q ws frees (Err e) new = IsRefusedFor old q (length ws) (length frees) e × (new ≡ old)
