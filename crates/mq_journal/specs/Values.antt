-- What the side of a queue and the root show on a desk.
use lib.Dec.{lit≤}
use Rattle.std.specs.Prelude.{◌≡◌, ◌≢◌, ◌⊎◌, ◌<◌, ◌≤◌, ℕ, suc, ◌+◌, ◌-◌, ◌^◌, List, [], ◌∷◌, length, map, reverse, slice_index_or, Option, Some, None, nat_lt, if◌then◌else◌}
use Rattle.mq_blocks.specs.Drive.{PortState, IsBoundKept, counted}
use Rattle.mq_blocks.specs.Geometry.{shaped}
use Rattle.mq_blocks.specs.declared.command.Command.{Command}
use Rattle.mq_blocks.specs.declared.geometry.Geometry.{Geometry}
use Rattle.mq_drive.specs.Steps.{PortFault}
use Rattle.mq_drive.specs.declared.port.Port.{Ghosts}
use Rattle.mq_ledger.specs.History.{IsAt}
use Rattle.mq_ledger.specs.Items.{end_of}
use Rattle.mq_ledger.specs.declared.tx.Tx.{Tx}
use Rattle.mq_pmr.specs.Rungs.{last_end}
use Rattle.mq_desk_laws.specs.Values.{Part, Values}
use Rattle.mq_queue_side.specs.Counts.{ahead, most_events}
use Rattle.mq_queue_side.specs.Side.{SideState, IsPassedOf, AreRungsOf, IsBelow, IsDoneOf, IsKept, HasTx, side_state}
use Rattle.mq_queue_side.specs.Stored.{AreStored}
use Rattle.mq_queue_side.specs.Told.{IsTold}
use Rattle.mq_queue_side.specs.declared.answers.Why.{Why}
use Rattle.mq_queue_side.specs.declared.drawn.Drawn.{Drawn}
use Rattle.mq_queue_side.specs.declared.root.Root.{Root}
use Rattle.mq_queue_side.specs.declared.side.QueueSide.{QueueSide}
use Rattle.mq_turns.specs.Lists.{Each}
use Rattle.mq_turns.specs.declared.rule.Report.{Report}
use Rattle.mq_turns.specs.declared.rule.Report.TheVariants as report

-- how many of a queue's transactions were rung, of which the newest may not be
abbrev pub rung_of : ℕ → List Tx → ℕ → ℕ
rung_of start [] doorbell = 0
rung_of start (t ∷ ts) doorbell =
    if nat_lt doorbell (end_of start (t ∷ ts)) then length ts else suc (length ts)

-- With the events that are still to come, no more have happened since the opening than the transactions and
-- the faults allow. This holds until there are as many faults as a count of 64 bits can hold.
abbrev pub AreFew : Part → SideState → Type 0
AreFew p s =
    (2 ^ 64 - 1 ≤ length s.faults)
    ⊎ (s.port.events + ahead
    (end_of p.start p.txs) s ≤ p.opened.events + most_events p.txs + length s.faults)

-- What a side's record says beside its port: its records are of the queue's transactions, the failure that
-- it keeps is one of the faults that its port has gained since the opening, each transaction that was sent
-- was rung once, and the port has the fuse that it had at the opening, and the same of its commands and
-- home writes fails.
pub record IsRecord (p : Part) (s : SideState) : Type 0 where
  pub geometry : s.geometry ≡ p.geometry
  pub queue : s.queue ≡ p.queue
  pub passed : IsPassedOf p.start p.txs s.passed
  pub rung : AreRungsOf p.start p.txs s.passed.end s.rung
  pub last : last_end s.passed.end s.rung ≡ s.port.doorbell
  pub done : IsDoneOf p.start p.txs s.port.head s.done
  pub kept : IsKept p.start p.txs s.port.failed s.port.pending s.port.doorbell s.kept
  pub told : IsTold p.first s.faults s.kept
  pub few : AreFew p s
  pub rings : s.port.rings ≡ counted p.opened.rings (rung_of p.start p.txs s.port.doorbell)
  pub bound : IsBoundKept p.opened s.port

-- Where it keeps no failure, all that was drawn is rung.
abbrev pub IsRungUnlessKept : Part → SideState → Type 0
IsRungUnlessKept p s = s.kept ≡ None → s.port.doorbell ≡ end_of p.start p.txs

-- it says so too with another base word
pub record_later : (p : Part) (word : ℕ) (s : SideState) → IsRecord p s
    → IsRecord (record p { word = word }) s
record_later p word s is = record {
  geometry = is.geometry;
  queue = is.queue;
  passed = is.passed;
  rung = is.rung;
  last = is.last;
  done = is.done;
  kept = is.kept;
  told = is.told;
  few = is.few;
  rings = is.rings;
  bound = is.bound;
}

-- ---- what was reported of its port

-- it is the number of a transaction of these whose entries don't all stand below a count
pub record IsUnrung (from : ℕ) (us : List Tx) (count n : ℕ) : Type 0 where
  pub t : Tx
  pub ts : List Tx
  pub at : IsAt t ts us
  pub number : n ≡ t.number
  pub above : count < end_of from (t ∷ ts)

-- A command of the transaction, which is rung, has failed; or its send was cut. A failure is kept from then
-- on.
abbrev pub StaysFailed : ℕ → List Tx → ℕ → List Command → Option (ℕ × Why) → ℕ → Type 0
StaysFailed from us doorbell failed kept n = (kept ≢ None) × HasTx n failed × IsBelow from us doorbell n

abbrev pub StaysCut : ℕ → List Tx → ℕ → Option (ℕ × Why) → ℕ → Type 0
StaysCut from us doorbell kept n = (kept ≢ None) × IsUnrung from us doorbell n

-- What the side shows of a report of its port: a transaction that was rung stands below the doorbell, and
-- one that stays undone is so still.
abbrev pub Shows : ℕ → List Tx → ℕ → List Command → Option (ℕ × Why) → Report → Type 0
Shows from us doorbell failed kept report.Off = Unit {0}
Shows from us doorbell failed kept (report.Failed tx status) = StaysFailed from us doorbell failed kept tx
Shows from us doorbell failed kept (report.FailedHome block status) = Unit {0}
Shows from us doorbell failed kept (report.Stopped tx None) = StaysCut from us doorbell kept tx
Shows from us doorbell failed kept (report.Stopped tx (Some status)) =
    StaysFailed from us doorbell failed kept tx
Shows from us doorbell failed kept (report.Sent tx) = IsBelow from us doorbell tx

abbrev pub ShowsAll : ℕ → List Tx → SideState → List Report → Type 0
ShowsAll from us s reports = Each (Shows from us s.port.doorbell s.port.failed s.kept) reports

-- the entries that are stored, each with its number, newest first
abbrev pub entries_in : {E : Type 0} → List (Drawn E) → List (ℕ × E)
entries_in stored = reverse (map (λ d. (d.number, d.entry)) stored)

-- where there is no side that says otherwise: of the smallest drive
abbrev pub least_geometry : Geometry
least_geometry = shaped 1 1024 4 1 (lit≤ tt, lit≤ tt) (lit≤ tt, lit≤ tt) (lit≤ tt, lit≤ tt, lit≤ tt)

module _ {P E : Type 0} {G : Ghosts P} (state : P → PortState) (faults : P → List PortFault) where
  -- what a side's record says, with what it stores of the transactions
  pub record Says (p : Part) (s : QueueSide P E G) : Type 0 where
    pub is : IsRecord p (side_state state faults s)
    pub whole : IsRungUnlessKept p (side_state state faults s)
    pub stored : AreStored p.txs s.stored.items
    pub shows : ShowsAll p.start p.txs (side_state state faults s) p.reports

  -- The shape of the drive is that of its sides; the root says nothing of it.
  abbrev pub side_values : Values (QueueSide P E G) (Root P G) E
  side_values = record {
    port = λ s. state s.pmr.port;
    faults = λ s. faults s.pmr.port;
    stored = λ s. entries_in s.stored.items;
    says = Says;
    root = λ r. state r.port;
    root_faults = λ r. faults r.port;
    root_says = λ g r. Unit {0};
    geometry = λ sides r. slice_index_or (map (λ s. s.pmr.geometry) sides) 0 least_geometry;
    later = λ p word s above says. record {
      is = record_later p word (side_state state faults s) says.is;
      whole = says.whole;
      stored = says.stored;
      shows = says.shows;
    };
  }
