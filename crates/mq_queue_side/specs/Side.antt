-- What a queue's side keeps beside its ring, and how it stands to what is known of the journal.
use Rattle.std.specs.Prelude.{◌≡◌, ◌≢◌, ◌⊎◌, ◌≤◌, ℕ, List, [], ◌∷◌, Option, Some, None}
use Rattle.mq_blocks.specs.Drive.{PortState}
use Rattle.mq_blocks.specs.declared.command.Command.{Command}
use Rattle.mq_blocks.specs.declared.geometry.Geometry.{Geometry}
use Rattle.mq_drive.specs.Steps.{PortFault}
use Rattle.mq_drive.specs.declared.port.Port.{Ghosts}
use Rattle.mq_ledger.specs.History.{IsAt}
use Rattle.mq_ledger.specs.Items.{end_of}
use Rattle.mq_ledger.specs.KnownJournal.{KnownJournal}
use Rattle.mq_ledger.specs.Sides.{SideOk}
use Rattle.mq_ledger.specs.Written.{entries_of}
use Rattle.mq_ledger.specs.declared.tx.Tx.{Tx}
use Rattle.mq_pmr.specs.Rungs.{last_end}
use Rattle.mq_pmr.specs.declared.rungs.Rung.{Rung}
use Rattle.mq_queue_side.specs.declared.answers.Why.{Why}
use Rattle.mq_queue_side.specs.declared.answers.Why.TheVariants.{Status, Off}
use Rattle.mq_queue_side.specs.declared.side.QueueSide.{QueueSide}

-- A side as the contracts of its calls see it, apart from the entries that it stores.
pub record SideState : Type 0 where
  pub geometry : Geometry
  pub queue : ℕ
  pub port : PortState
  pub faults : List PortFault
  -- the records of its ring: the last transaction that was passed, and those that were rung after it
  pub passed : Rung
  pub rung : List Rung
  -- the last number of which it knows that it is done
  pub done : ℕ
  -- the failure that it keeps
  pub kept : Option (ℕ × Why)

abbrev pub side_state : {P : Type 0} {E : Type 0} {G : Ghosts P} → (P → PortState)
    → (P → List PortFault) → QueueSide P E G → SideState
side_state state faults s = record {
  geometry = s.pmr.geometry;
  queue = s.pmr.queue;
  port = state s.pmr.port;
  faults = faults s.pmr.port;
  passed = s.pmr.done;
  rung = s.pmr.rung.items;
  done = s.done;
  kept = s.kept;
}

-- ---- the ring's records, against the queue's transactions

-- a transaction of these, with its number and the count behind its entries
pub record IsRungOf (from : ℕ) (us : List Tx) (r : Rung) : Type 0 where
  pub t : Tx
  pub ts : List Tx
  pub at : IsAt t ts us
  pub tx : r.tx ≡ t.number
  pub end_is : r.end ≡ end_of from (t ∷ ts)

-- the last of them that was passed, or none
abbrev pub IsPassedOf : ℕ → List Tx → Rung → Type 0
IsPassedOf from us r = ((r.tx ≡ 0) × (r.end ≡ from)) ⊎ IsRungOf from us r

-- some of them, one right behind the other, the first from a count on
abbrev pub AreRungsOf : ℕ → List Tx → ℕ → List Rung → Type 0
AreRungsOf from us low [] = Unit {0}
AreRungsOf from us low (r ∷ rs) =
    (is : IsRungOf from us r) × (end_of from is.ts ≡ low) × AreRungsOf from us r.end rs

-- it is the number of a transaction of these whose entries all stand below a count
pub record IsBelow (from : ℕ) (us : List Tx) (count n : ℕ) : Type 0 where
  pub t : Tx
  pub ts : List Tx
  pub at : IsAt t ts us
  pub number : n ≡ t.number
  pub below : end_of from (t ∷ ts) ≤ count

-- it stands below the head, or is 0, before any is done
abbrev pub IsDoneOf : ℕ → List Tx → ℕ → ℕ → Type 0
IsDoneOf from us head n = (n ≡ 0) ⊎ IsBelow from us head n

-- ---- the failure that is kept

-- each of these commands is of this transaction or a later one
abbrev pub AreFromTx : ℕ → List Command → Type 0
AreFromTx n [] = Unit {0}
AreFromTx n (c ∷ cs) = (n ≤ c.tx) × AreFromTx n cs

-- one of them is of this transaction
abbrev pub HasTx : ℕ → List Command → Type 0
HasTx n [] = ⊥
HasTx n (c ∷ cs) = (c.tx ≡ n) ⊎ HasTx n cs

-- the newest of these has this number, and its entries begin at a count
abbrev pub NewestBegins : ℕ → List Tx → ℕ → ℕ → Type 0
NewestBegins from [] count n = ⊥
NewestBegins from (t ∷ ts) count n = (t.number ≡ n) × (count ≡ end_of from ts)

-- A send of the newest transaction was cut, and all before it are rung; or a command of the transaction,
-- which is rung, failed, and none of a lower one.
abbrev pub IsKeptBy : ℕ → List Tx → List Command → ℕ → ℕ → Why → Type 0
IsKeptBy from us failed doorbell n Off = (failed ≡ []) × NewestBegins from us doorbell n
IsKeptBy from us failed doorbell n (Status s) =
    (s ≢ 0) × HasTx n failed × AreFromTx n failed × IsBelow from us doorbell n

-- where none is kept, nothing failed and nothing is staged
abbrev pub IsKept : ℕ → List Tx → List Command → List Command → ℕ → Option (ℕ × Why) → Type 0
IsKept from us failed pending doorbell None = (failed ≡ []) × (pending ≡ [])
IsKept from us failed pending doorbell (Some w) = IsKeptBy from us failed doorbell w.0 w.1

-- ---- all of it

-- The side of the queue q, where its entries are those of these transactions.
pub record IsQueueSide (k : KnownJournal) (q : ℕ) (us : List Tx) (s : SideState) : Type 0 where
  pub geometry : s.geometry ≡ k.geometry
  pub queue : s.queue ≡ q
  pub entries : k.entries ≡ entries_of k.entries.form
  pub side : SideOk k q us s.port
  pub passed : IsPassedOf (k.from q) us s.passed
  pub rung : AreRungsOf (k.from q) us s.passed.end s.rung
  pub last : last_end s.passed.end s.rung ≡ s.port.doorbell
  pub done : IsDoneOf (k.from q) us s.port.head s.done
  pub kept : IsKept (k.from q) us s.port.failed s.port.pending s.port.doorbell s.kept

-- all that was drawn is rung
abbrev pub IsRung : KnownJournal → ℕ → List Tx → SideState → Type 0
IsRung k q us s = s.port.doorbell ≡ end_of (k.from q) us
