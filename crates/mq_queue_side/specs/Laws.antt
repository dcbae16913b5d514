-- Laws of sides.
use Rattle.std.specs.Prelude.{◌≡◌, ◌⊎◌, ◌<◌, ◌≤◌, ℕ, ◌+◌, ◌-◌, ◌^◌, Bool, true, false, List, [], ◌∷◌, ◌++◌}
use Rattle.std.specs.Prelude.{length, map, None, Ok, Err}
use Rattle.mq_blocks.specs.Descriptor.{DescriptorForm}
use Rattle.mq_blocks.specs.Drive.{staged_end}
use Rattle.mq_blocks.specs.Geometry.{homes_of}
use Rattle.mq_blocks.specs.Journal.{number_limit}
use Rattle.mq_blocks.specs.declared.geometry.Geometry.{Geometry}
use Rattle.mq_ledger.specs.History.{writes, of_queue, IsAt}
use Rattle.mq_ledger.specs.Items.{end_of, next, number_before, descriptor_blocks, place_for}
use Rattle.mq_ledger.specs.KnownJournal.{KnownJournal, LogOk, MayDraw, draw_known}
use Rattle.mq_ledger.specs.Sides.{SideOk}
use Rattle.mq_ledger.specs.Written.{entries_of}
use Rattle.mq_ledger.specs.declared.tx.Tx.{Tx}
use Rattle.mq_core.specs.Events.{HasRoom}
use Rattle.mq_revoke.specs.Guard.{placed_of}
use Rattle.mq_revoke.specs.Placed.{Placed}
use Rattle.mq_revoke.specs.Placing.{AreInOrder, IsPlacement}
use Rattle.mq_revoke.specs.declared.placement.Planned.{Planned}
use Rattle.mq_queue_side.specs.Commits.{IsPlanOf, commit_of, commit_of_tx, items_of, descriptor_size}
use Rattle.mq_queue_side.specs.Counts.{IsCounted, most_events}
use Rattle.mq_queue_side.specs.Drained.{Drains, IsWhole}
use Rattle.mq_queue_side.specs.Sent.{AreItems}
use Rattle.mq_queue_side.specs.Side.{SideState, IsQueueSide, IsRung}
use Rattle.mq_queue_side.specs.Staying.{Stays}
use Rattle.mq_queue_side.specs.Stored.{rows_of, rows_for, AreStored, next_in, numbered_in, FitIs}
use Rattle.mq_queue_side.specs.declared.answers.Cause.{Cause}
use Rattle.mq_queue_side.specs.declared.answers.Cause.TheVariants.{Failed, FailedHome, Stopped}
use Rattle.mq_queue_side.specs.declared.answers.Cause.TheVariants as cause
use Rattle.mq_queue_side.specs.declared.answers.Fit.TheVariants.{Yes}
use Rattle.mq_queue_side.specs.declared.drawn.Drawn.{Drawn}

-- ---- the beginning

-- a side on which nothing was drawn
pub record IsFresh (s : SideState) : Type 0 where
  pub passed : s.passed ≡ record { tx = 0; end = s.port.doorbell }
  pub rung : s.rung ≡ []
  pub done : s.done ≡ 0
  pub kept : s.kept ≡ None
  pub failed : s.port.failed ≡ []
  pub pending : s.port.pending ≡ []

-- is a side of a journal whose history has nothing of its queue
abbrev pub Opening : Type 0
Opening =
    (k : KnownJournal) (q : ℕ) (s : SideState) → IsFresh s → s.geometry ≡ k.geometry → s.queue ≡ q
    → k.entries ≡ entries_of k.entries.form → s.port.doorbell ≡ k.from q → SideOk k q [] s.port
    → IsQueueSide k q [] s

-- ---- plans

-- a placement of writes is a plan of them
abbrev pub Planning : Type 0
Planning =
    (g : Geometry) (queue front base : ℕ) (writes : List Planned) (plan : Placed) → AreInOrder g writes
    → IsPlacement g queue front base writes plan
    → IsPlanOf (homes_of g) (map (λ w. w.block) writes) plan

-- ---- draws

-- what fits, has room
abbrev pub Fitting : Type 0
Fitting =
    (k : KnownJournal) (t : Tx) (us : List Tx) (s : SideState) (base : ℕ) → IsQueueSide k t.queue us s
    → s.kept ≡ None → IsRung k t.queue us s → base ≤ k.word
    → FitIs k.geometry.area base (rows_for us) s.port (placed_of t) Yes
    → place_for t us < 2 ^ 62
    → staged_end s.port + (writes t + descriptor_blocks t) ≤ number_limit
    → HasRoom k.geometry (k.from t.queue) k.word us t s.port

-- what is numbered next is the commit of the transaction, and then one more is stored
abbrev pub Numbering : Type 0
Numbering =
    (form : DescriptorForm) (t : Tx) (us : List Tx)
    → numbered_in form t.queue t.number (rows_for us) (commit_of_tx t) ≡ commit_of form t us

abbrev pub Storing : Type 0 → Type 0
Storing E =
    (t : Tx) (us : List Tx) (stored : List (Drawn E)) (entry : E) → AreStored us stored
    → AreStored (t ∷ us) (stored
    ++ record {
      number = t.number;
      next = next_in (rows_of stored)
          + (length t.logged + descriptor_size (length t.logged) (length t.revoked));
      entry = entry;
    }
    ∷ [])

-- the side's own draw: it keeps no failure, and there is room
abbrev pub OwnDraw : Type 0
OwnDraw =
    (k : KnownJournal) (t : Tx) (s : SideState) → LogOk k → MayDraw k t → k.done t k.history ≡ false
    → s.kept ≡ None → HasRoom k.geometry (k.from t.queue) k.word (of_queue t.queue k.history) t s.port
    → IsQueueSide k t.queue (of_queue t.queue k.history) s
    → IsQueueSide (draw_known t k) t.queue (t ∷ of_queue t.queue k.history) s

-- whoever draws
abbrev pub OtherDraws : Type 0
OtherDraws =
    (k : KnownJournal) (t : Tx) (q : ℕ) (us : List Tx) (s : SideState) → LogOk k
    → t.number ≡ k.base + length k.history + 1 → k.done t k.history ≡ false → IsQueueSide k q us s
    → IsQueueSide (draw_known t k) q us s

-- a draw leaves room for its own events
abbrev pub DrawCounts : Type 0
DrawCounts =
    (first : ℕ) (k : KnownJournal) (q : ℕ) (t : Tx) (us : List Tx) (s : SideState) → IsQueueSide k q us s
    → IsRung k q us s → IsCounted first k q us s → IsCounted first (draw_known t k) q (t ∷ us) s

-- the items of a transaction's commit are those of the entries that come next
abbrev pub HasItems : Type 0
HasItems =
    (k : KnownJournal) (t : Tx) (us : List Tx) (s : SideState)
    → s.port.doorbell ≡ end_of (k.from t.queue) us
    → AreItems k.entries.form k.geometry t.queue (k.from t.queue) (t ∷ us) t.number s.port.doorbell
    (items_of k.geometry (commit_of k.entries.form t us))

-- ---- what is known changes otherwise

-- More is known to be done: of the side's own queue, no number above the last of which the side knows it.
abbrev pub Claiming : Type 0
Claiming =
    (k : KnownJournal) (q : ℕ) (us : List Tx) (s : SideState) (done : Tx → List Tx → Bool) → LogOk k
    → IsQueueSide k q us s
    → ((t : Tx) (ts : List Tx) → IsAt t ts k.history → k.done t ts ≡ true → done t ts ≡ true)
    → ((t : Tx) (ts : List Tx) → IsAt t ts k.history → t.queue ≡ q → done t ts ≡ true
    → (k.done t ts ≡ true) ⊎ (t.number ≤ s.done))
    → IsQueueSide (record k { done = done }) q us s

-- Whatever else changes, only what holds of the port depends on it.
abbrev pub Changing : Type 0
Changing =
    (k l : KnownJournal) (q : ℕ) (us : List Tx) (s : SideState) → l.geometry ≡ k.geometry
    → l.entries ≡ k.entries → l.from q ≡ k.from q → SideOk l q us s.port → IsQueueSide k q us s
    → IsQueueSide l q us s

-- ---- what a drain has reached

-- Where all that was drawn was rung, the answer is the number of the last transaction that was drawn.
abbrev pub Reaching : Type 0
Reaching =
    (k : KnownJournal) (q : ℕ) (us : List Tx) (old new : SideState) (n : ℕ) → LogOk k
    → IsQueueSide k q us old → IsRung k q us old → Drains old (Ok n) new → IsWhole old new → Stays old new
    → n ≡ number_before us

-- the answer names this transaction
abbrev pub NamesTransaction : Cause → ℕ → Type 0
NamesTransaction (Failed tx status) n = tx ≡ n
NamesTransaction (Stopped tx w) n = tx ≡ n
NamesTransaction cause.Off n = ⊥
NamesTransaction (FailedHome block status) n = ⊥

-- Of a failure, each transaction of the queue before the one that is named is done.
abbrev pub DoneBefore : Type 0
DoneBefore =
    (k : KnownJournal) (q : ℕ) (us : List Tx) (old new : SideState) (c : Cause) (n : ℕ) → LogOk k
    → IsQueueSide k q us old → Drains old (Err c) new → Stays old new → NamesTransaction c n
    → (t : Tx) (ts : List Tx) → IsAt t ts us → t.number < n → t.number ≤ new.done

-- Each transaction up to the last that is done has all its entries below the flushed head.
abbrev pub BelowHead : Type 0
BelowHead =
    (k : KnownJournal) (q : ℕ) (us : List Tx) (s : SideState) → LogOk k → IsQueueSide k q us s
    → (t : Tx) (ts : List Tx) → IsAt t ts us → t.number ≤ s.done → end_of (k.from q) (t ∷ ts) ≤ s.port.head

-- ---- events

abbrev pub Bound : Type 0
Bound =
    (first : ℕ) (k : KnownJournal) (q : ℕ) (us : List Tx) (s : SideState) → s.port.events ≤ 2 ^ 64 - 1
    → IsCounted first k q us s → s.port.events ≤ first + most_events us + length s.faults
