-- The ports of a drive as recovery sees them, and what their images show.
use Rattle.std.specs.Prelude.{◌≡◌, ◌<◌, ℕ, List, length, map, slice_set}
use Rattle.mq_nvme.specs.Says.{journal_reading}
use Rattle.mq_blocks.specs.Drive.{PortState, PortImage, IsBoundKept, IsImage, IsQuiescent, image_of}
use Rattle.mq_blocks.specs.Journal.{Shown, shown, image_at}
use Rattle.mq_blocks.specs.declared.geometry.Geometry.{Geometry}
use Rattle.mq_ledger.specs.State.{port_at}
use Rattle.mq_drive.specs.Start.{IsPortOf, HasWords}
use Rattle.mq_drive.specs.Steps.{PortFault}
use Rattle.mq_drive.specs.declared.port.Ports.{Ports}
use Rattle.mq_drive.specs.declared.role.Role.{Role}
use Rattle.mq_drive.specs.declared.role.Role.TheVariants.{Queue, Root}

-- the states of all ports, the queues' in order
pub record DriveState : Type 0 where
  pub queues : List PortState
  pub root : PortState

abbrev pub drive : List PortState → PortState → DriveState
drive queues root = record { queues = queues; root = root }

-- the states of these ports
abbrev pub states : {P : Type 0} → (P → PortState) → List P → P → DriveState
states state queues root = drive (map state queues) (state root)

-- the states of the ports of a drive
abbrev pub drive_of : {P : Type 0} → (P → PortState) → Ports P → DriveState
drive_of state ports = states state ports.queues.items ports.root

-- the drive with another state of a queue's port
abbrev pub at_queue : ℕ → (PortState → PortState) → DriveState → DriveState
at_queue q f d = drive (slice_set d.queues q (f (port_at d.queues q))) d.root

abbrev pub at_root : (PortState → PortState) → DriveState → DriveState
at_root f d = drive d.queues (f d.root)

-- what the images of the ports show, where each has one
abbrev pub view_over : Geometry → DriveState → Shown
view_over g d = shown journal_reading g (map image_of d.queues) (image_of d.root)

pub record IsQuiescentPort (g : Geometry) (role : Role) (p : PortState) : Type 0 where
  pub port : IsPortOf g role p
  pub quiet : IsQuiescent p

-- these are the ports of a drive of this geometry
pub record ArePorts (g : Geometry) (d : DriveState) : Type 0 where
  pub count : length d.queues ≡ g.queues
  pub each : (q : ℕ) → q < g.queues → IsPortOf g (Queue q) (port_at d.queues q)
  pub root : IsPortOf g Root d.root

-- and each of them has one image
pub record IsQuiescentDrive (g : Geometry) (d : DriveState) : Type 0 where
  pub count : length d.queues ≡ g.queues
  pub each : (q : ℕ) → q < g.queues → IsQuiescentPort g (Queue q) (port_at d.queues q)
  pub root : IsQuiescentPort g Root d.root
  -- the root has no ring
  pub ringless : HasWords Root (image_of d.root)

-- this is what a power cut may leave of the drive
pub record AreImages (g : Geometry) (d : DriveState) (queues : List PortImage)
    (root : PortImage) : Type 0 where
  pub each : (q : ℕ) → q < g.queues → IsImage (port_at d.queues q) (image_at queues q)
  pub root_is : IsImage d.root root

-- each port has the same fuse, and the same of its commands and home writes fails
pub record AreBoundsKept (g : Geometry) (old new : DriveState) : Type 0 where
  pub queues : (q : ℕ) → q < g.queues → IsBoundKept (port_at old.queues q) (port_at new.queues q)
  pub root : IsBoundKept old.root new.root

-- ---- faults

-- the faults of all ports
pub record DriveFaults : Type 0 where
  pub queues : List (List PortFault)
  pub root : List PortFault

abbrev pub faults_of : {P : Type 0} → (P → List PortFault) → List P → P → DriveFaults
faults_of faults queues root = record { queues = map faults queues; root = faults root }

-- the faults of the ports of a drive
abbrev pub faults_on : {P : Type 0} → (P → List PortFault) → Ports P → DriveFaults
faults_on faults ports = faults_of faults ports.queues.items ports.root
