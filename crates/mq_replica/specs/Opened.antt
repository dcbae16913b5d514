-- The journal of an open replica: the transactions since the last recovery, on the queue's side and in the
-- root's port. All of them are done, and each waits for the next recovery to come home.
use Rattle.std.specs.Prelude.{◌≡◌, ◌<◌, ◌≤◌, ℕ, ◌+◌, false, List, [], ◌∷◌, length, IsSome, Option, None, nat_eq, slice_index_or}
use Rattle.mq_blocks.specs.Blocks.{content}
use Rattle.mq_blocks.specs.Drive.{PortState, image_of}
use Rattle.mq_blocks.specs.Geometry.{homes_of}
use Rattle.mq_blocks.specs.Machine.{Writes}
use Rattle.mq_blocks.specs.declared.geometry.Geometry.{Geometry}
use Rattle.mq_desk_laws.specs.Bases.{RootStands}
use Rattle.mq_drive.specs.Start.{HasWords}
use Rattle.mq_drive.specs.Steps.{PortFault}
use Rattle.mq_drive.specs.declared.role.Role.TheVariants.{Root}
use Rattle.mq_ledger.specs.History.{map_after}
use Rattle.mq_ledger.specs.Items.{end_of}
use Rattle.mq_ledger.specs.KnownJournal.{KnownJournal, LogOk}
use Rattle.mq_ledger.specs.State.{from_at, start_map}
use Rattle.mq_ledger.specs.Written.{journal_entries}
use Rattle.mq_ledger.specs.declared.tx.Tx.{Tx}
use Rattle.mq_queue_side.specs.Side.{IsQueueSide, SideState}
use Rattle.mq_queue_side.specs.Stored.{Row, rows_for}
use Rattle.mq_recover.specs.Drives.{DriveFaults, DriveState, IsQuiescentPort, drive}
use Rattle.mq_replica.specs.Contents.{Contents}

-- a transaction of the replica: all is logged
abbrev pub logged_tx : ℕ → Writes → Tx
logged_tx number ws = record {
  number = number;
  queue = 0;
  logged = ws;
  direct = [];
  revoked = [];
  freed = [];
}

-- What is known of the journal, over the blocks and the base that the last recovery left. Nothing is taken
-- to be done, so the contents at the base are due at home: no call writes a home block.
abbrev pub known_over : Geometry → (start : List (Option (List ℕ))) → (base from : ℕ) → List Tx → KnownJournal
known_over g start base from history = record {
  geometry = g;
  entries = journal_entries;
  start = start_map start;
  base = base;
  from = from_at (from ∷ []);
  history = history;
  done = λ t ts. false;
  due = λ x v. nat_eq v base;
  word = base;
}

-- each is on queue 0, and all that it writes is logged
abbrev pub AreLogged : List Tx → Type 0
AreLogged [] = Unit {0}
AreLogged (t ∷ ts) = (t.queue ≡ 0) × (t.direct ≡ []) × (t.freed ≡ []) × AreLogged ts

-- what the home blocks hold after the history
abbrev pub contents_of : List (Option (List ℕ)) → List Tx → Contents
contents_of start history x = content (map_after (start_map start) history x)

-- a side and a root, as the contracts of their calls see them
pub record OpenedState : Type 0 where
  pub side : SideState
  pub rows : List Row
  pub root : PortState
  pub root_faults : List PortFault
  -- the last number of the drive's own journal
  pub number : ℕ

abbrev pub drive_over : OpenedState → DriveState
drive_over v = drive (v.side.port ∷ []) v.root

abbrev pub faults_over : OpenedState → DriveFaults
faults_over v = record { queues = v.side.faults ∷ []; root = v.root_faults }

-- nothing ever happens on the root's port while the side is open
pub record IsRootIdle (g : Geometry) (root : PortState) : Type 0 where
  pub quiet : IsQuiescentPort g Root root
  pub ringless : HasWords Root (image_of root)

-- The journal of a side and a root.
pub record IsJournal (g : Geometry) (v : OpenedState) : Type 0 where
  pub one : g.queues ≡ 1
  pub start : List (Option (List ℕ))
  pub from : ℕ
  pub history : List Tx
  pub whole : length start ≡ homes_of g
  pub full : (x : ℕ) → x < homes_of g → IsSome (slice_index_or start x None)
  pub logged : AreLogged history
  pub number_is : v.number ≡ v.root.base + length history
  pub log : LogOk (known_over g start v.root.base from history)
  pub side : IsQueueSide (known_over g start v.root.base from history) 0 history v.side
  pub stored : v.rows ≡ rows_for history
  pub root_is : RootStands (known_over g start v.root.base from history) v.root
  pub idle : IsRootIdle g v.root

-- all entries of the history are rung, and stand below the flushed head
pub record IsSettled (s : SideState) (from : ℕ) (history : List Tx) : Type 0 where
  pub none : s.kept ≡ None
  pub rung : s.port.doorbell ≡ end_of from history
  pub passed : end_of from history ≤ s.port.head

-- the journal of an open replica, of which all is done
pub record IsOpened (g : Geometry) (v : OpenedState) : Type 0 where
  pub journal : IsJournal g v
  pub settled : IsSettled v.side journal.from journal.history
