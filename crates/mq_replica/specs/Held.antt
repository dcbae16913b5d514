-- What a replica holds, as the contracts of its calls see it.
use Rattle.std.specs.Prelude.{◌≡◌, ◌≤◌, ◌*◌, ◌^◌, ℕ, ◌+◌, Bool, true, false, List, [], length, Option, Some, None, Result, Ok, Err}
use Rattle.mq_blocks.specs.Drive.{PortState}
use Rattle.mq_blocks.specs.declared.geometry.Geometry.{Geometry}
use Rattle.mq_drive.specs.Steps.{PortFault}
use Rattle.mq_drive.specs.declared.port.Port.{Ghosts}
use Rattle.mq_drive.specs.declared.port.Ports.{Ports}
use Rattle.mq_ledger.specs.State.{no_port}
use Rattle.mq_queue_side.specs.Side.{side_state}
use Rattle.mq_queue_side.specs.Stored.{rows_of}
use Rattle.mq_recover.specs.Drives as drives
use Rattle.mq_recover.specs.Drives.{DriveFaults, DriveState, IsQuiescentDrive, faults_on}
use Rattle.mq_replica.specs.Apart.{IsLow}
use Rattle.mq_replica.specs.Applying.{PortsState}
use Rattle.mq_replica.specs.Offers.{ReplicaState}
use Rattle.mq_replica.specs.Opened.{IsOpened, OpenedState, drive_over, faults_over}
use Rattle.mq_replica.specs.declared.held.Held.{Held}
use Rattle.mq_replica.specs.declared.update.OfferRefusal.{OfferRefusal}
use Rattle.mq_replica.specs.declared.held.Held.TheVariants.{Opened, Apart, Stopped}
use Rattle.mq_replica.specs.declared.opened.Opened as declared

abbrev pub ports_of : {Q : Type 0} → (Q → PortState) → (Q → List PortFault) → Ports Q → PortsState
ports_of state faults ports = record { drive = drives.drive_of state ports; faults = faults_on faults ports }

module _ {Q : Type 0} {G : Ghosts Q} (state : Q → PortState) (faults : Q → List PortFault) where
  abbrev pub opened_state : declared.Opened Q G → OpenedState
  opened_state o = record {
    side = side_state state faults o.side;
    rows = rows_of o.side.stored.items;
    root = state o.root.port;
    root_faults = faults o.root.port;
    number = o.number;
  }

  abbrev pub drive_in : Held Q G → DriveState
  drive_in (Opened o) = drive_over (opened_state o)
  drive_in (Apart ports) = drives.drive_of state ports
  drive_in (Stopped ports) = drives.drive_of state ports

  abbrev pub faults_in : Held Q G → DriveFaults
  faults_in (Opened o) = faults_over (opened_state o)
  faults_in (Apart ports) = faults_on faults ports
  faults_in (Stopped ports) = faults_on faults ports

  abbrev pub ports_in : Held Q G → PortsState
  ports_in held = record { drive = drive_in held; faults = faults_in held }

  abbrev pub ports_over : declared.Opened Q G → PortsState
  ports_over o = record { drive = drive_over (opened_state o); faults = faults_over (opened_state o) }

  -- The side is open on a journal of which all is done, or each port has one image, or the drive stopped
  -- it.
  abbrev pub IsReady : Geometry → Held Q G → Type 0
  IsReady g (Opened o) = IsOpened g (opened_state o)
  IsReady g (Apart ports) = (g.queues ≡ 1) × IsQuiescentDrive g (drives.drive_of state ports)
  IsReady g (Stopped ports) = length ports.queues.items ≡ 1

  -- the doorbell and the last number are at most these
  abbrev pub IsWithin : Geometry → (doorbell top : ℕ) → Held Q G → Type 0
  IsWithin g doorbell top (Opened o) = ((state o.side.pmr.port).doorbell ≤ doorbell) × (o.number ≤ top)
  IsWithin g doorbell top (Apart ports) = IsLow g (drives.drive_of state ports) doorbell top
  IsWithin g doorbell top (Stopped ports) = Unit {0}

  -- after so many offers numbers and doorbell are not far above those at the opening
  pub record IsHeld (g : Geometry) (offers : ℕ) (held : Held Q G) : Type 0 where
    pub ready : IsReady g held
    pub within : IsWithin g (2 ^ 62 + 4096 * offers) (2 ^ 62 + offers) held

  -- and something is held
  abbrev pub IsKeeping : Geometry → ℕ → Option (Held Q G) → Type 0
  IsKeeping g offers None = ⊥
  IsKeeping g offers (Some held) = IsHeld g offers held

abbrev pub is_stopped : {Q : Type 0} {G : Ghosts Q} → Held Q G → Bool
is_stopped (Opened o) = false
is_stopped (Apart ports) = false
is_stopped (Stopped ports) = true

-- ---- a replica

module _ {Q : Type 0} {G : Ghosts Q} (state : Q → PortState) (faults : Q → List PortFault) where
  -- that holds this, and has reached a number after so many offers
  abbrev pub replica_with : Geometry → (reached offers : ℕ) → Held Q G → ReplicaState
  replica_with g reached offers held = record {
    geometry = g;
    drive = drive_in state faults held;
    faults = faults_in state faults held;
    reached = reached;
    offers = offers;
    stopped = is_stopped held;
  }

  -- only a call under way holds nothing
  abbrev pub replica_of : Geometry → (reached offers : ℕ) → Option (Held Q G) → ReplicaState
  replica_of g reached offers None = record {
    geometry = g;
    drive = drives.drive [] no_port;
    faults = record { queues = []; root = [] };
    reached = reached;
    offers = offers;
    stopped = true;
  }
  replica_of g reached offers (Some held) = replica_with g reached offers held

-- the number that is reached by an answer
abbrev pub reached_by : ℕ → Result ℕ OfferRefusal → ℕ
reached_by reached (Ok n) = n
reached_by reached (Err e) = reached
