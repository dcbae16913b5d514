-- What an update's way through the drive leaves, by the states and the faults of its ports.
use Rattle.std.specs.Prelude.{◌≡◌, ℕ, ◌+◌, Bool, true, false, List, length, Option, Some, None, slice_index_or, []}
use Rattle.mq_blocks.specs.Drive.{counted}
use Rattle.mq_blocks.specs.Machine.{Writes}
use Rattle.mq_blocks.specs.declared.geometry.Geometry.{Geometry}
use Rattle.mq_drive.specs.Steps.{PortFault}
use Rattle.mq_ledger.specs.State.{port_at}
use Rattle.mq_queue_side.specs.Commits.{descriptor_size}
use Rattle.mq_queue_side.specs.Drained.{Rises}
use Rattle.mq_recover.specs.Drives.{AreBoundsKept, DriveFaults, DriveState}
use Rattle.mq_replica.specs.Contents.{with_writes}
use Rattle.mq_replica.specs.Images.{StandsFor, StandsForEither}
use Rattle.mq_replica.specs.declared.update.OfferRefusal.{OfferRefusal}
use Rattle.mq_replica.specs.declared.update.OfferRefusal.TheVariants.{Stopped, Limit, Range, TooLarge, OutOfMemory, Off, Failed}

-- the ports of a drive, with their faults
pub record PortsState : Type 0 where
  pub drive : DriveState
  pub faults : DriveFaults

abbrev pub doorbell_on : PortsState → ℕ
doorbell_on p = (port_at p.drive.queues 0).doorbell

abbrev pub rings_on : PortsState → ℕ
rings_on p = (port_at p.drive.queues 0).rings

-- the faults of one of the ports have risen
abbrev pub faults_at : DriveFaults → Option ℕ → List PortFault
faults_at f None = f.root
faults_at f (Some q) = slice_index_or f.queues q []

abbrev pub HaveRisen : DriveFaults → DriveFaults → Type 0
HaveRisen old new = (port : Option ℕ) × Rises (faults_at old port) (faults_at new port)

-- Each image stands for what it stood for.
pub record IsSaved (g : Geometry) (old new : PortsState) : Type 0 where
  pub faults : new.faults ≡ old.faults
  pub bounds : AreBoundsKept g old.drive new.drive
  pub stands : (c : ℕ → List ℕ) → StandsFor g old.drive c → StandsFor g new.drive c
  pub entries : doorbell_on new ≡ doorbell_on old
  pub rings : rings_on new ≡ rings_on old

-- Each image stands for the contents after the writes, where each stood for those before them. The entries
-- are those of the writes and of the descriptor, and one ring makes all of them visible.
pub record IsWritten (g : Geometry) (ws : Writes) (old new : PortsState) : Type 0 where
  pub faults : new.faults ≡ old.faults
  pub bounds : AreBoundsKept g old.drive new.drive
  pub stands : (c : ℕ → List ℕ) → StandsFor g old.drive c → StandsFor g new.drive (with_writes ws c)
  pub entries : doorbell_on new ≡ doorbell_on old + (length ws + descriptor_size (length ws) 0)
  pub rings : rings_on new ≡ counted (rings_on old) 1

-- The drive stopped it: each image stands for what it stood for, or for the contents after the writes.
pub record IsCutOff (g : Geometry) (ws : Writes) (old new : PortsState) : Type 0 where
  pub risen : HaveRisen old.faults new.faults
  pub bounds : AreBoundsKept g old.drive new.drive
  pub stands : (c : ℕ → List ℕ) → StandsFor g old.drive c → StandsForEither g new.drive c (with_writes ws c)

-- what a refusal leaves, where these are held then or were stopped
abbrev pub Leaves : Geometry → Writes → PortsState → OfferRefusal → (stopped : Bool) → PortsState → Type 0
Leaves g ws old OutOfMemory stopped new = (stopped ≡ false) × IsSaved g old new
Leaves g ws old Off stopped new = (stopped ≡ true) × IsCutOff g ws old new
Leaves g ws old (Failed status) stopped new = (stopped ≡ true) × IsCutOff g ws old new
Leaves g ws old Stopped stopped new = ⊥
Leaves g ws old Limit stopped new = ⊥
Leaves g ws old (Range block) stopped new = ⊥
Leaves g ws old (TooLarge count limit) stopped new = ⊥
