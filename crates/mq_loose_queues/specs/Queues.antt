-- Queues of the loose order as the contracts of their calls see them.
use Rattle.std.specs.Prelude.{ℕ, ◌+◌, Bool, List, [], length, map, None, slice_index_or}
use Rattle.mq_blocks.specs.Drive.{PortState}
use Rattle.mq_blocks.specs.declared.geometry.Geometry.{Geometry}
use Rattle.mq_drive.specs.Steps.{PortFault}
use Rattle.mq_drive.specs.declared.port.Port.{Ghosts}
use Rattle.mq_ledger.specs.State.{no_port}
use Rattle.mq_loose.specs.declared.machine.rows.LooseRow.{LooseRow}
use Rattle.mq_queue_side.specs.Side.{SideState, side_state}
use Rattle.mq_queue_side.specs.Stored.{Row, rows_of}
use Rattle.mq_queue_side.specs.declared.side.QueueSide.{QueueSide}
use Rattle.mq_recover.specs.Drives.{DriveFaults, DriveState}
use Rattle.mq_loose_queues.specs.declared.changes.Change.{Change}
use Rattle.mq_loose_queues.specs.declared.parts.Parts.{Parts}

-- a side, with what it stores of its transactions
pub record StoredSide : Type 0 where
  pub side : SideState
  pub rows : List Row

pub record QueuesState : Type 0 where
  pub geometry : Geometry
  -- of each queue
  pub sides : List StoredSide
  pub root : PortState
  pub root_faults : List PortFault
  -- of each home block
  pub changes : List Change
  -- of each transaction, the oldest first, and whether it is settled
  pub rows : List LooseRow
  pub flags : List Bool

abbrev pub stored_state : {P E : Type 0} {G : Ghosts P} → (P → PortState) → (P → List PortFault) → QueueSide P E G
    → StoredSide
stored_state state faults s = record { side = side_state state faults s; rows = rows_of s.stored.items }

abbrev pub parts_state : {P : Type 0} {G : Ghosts P} → (P → PortState) → (P → List PortFault) → Parts P G
    → QueuesState
parts_state state faults p = record {
  geometry = p.geometry;
  sides = map (stored_state state faults) p.sides.items;
  root = state p.root.port;
  root_faults = faults p.root.port;
  changes = p.changes.items;
  rows = p.rows.items;
  flags = p.flags.items;
}

abbrev pub no_side : Geometry → StoredSide
no_side g = record {
  side = record {
    geometry = g;
    queue = 0;
    port = no_port;
    faults = [];
    passed = record { tx = 0; end = 0 };
    rung = [];
    done = 0;
    kept = None;
  };
  rows = [];
}

-- the side of a queue
abbrev pub at_queue : QueuesState → ℕ → StoredSide
at_queue v q = slice_index_or v.sides q (no_side v.geometry)

abbrev pub ports_of : QueuesState → List PortState
ports_of v = map (λ s. s.side.port) v.sides

abbrev pub drive_in : QueuesState → DriveState
drive_in v = record { queues = ports_of v; root = v.root }

abbrev pub faults_in : QueuesState → DriveFaults
faults_in v = record { queues = map (λ s. s.side.faults) v.sides; root = v.root_faults }

-- the number of the next commit
abbrev pub next_number : QueuesState → ℕ
next_number v = v.root.base + length v.rows + 1
