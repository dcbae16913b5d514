-- A file system over what stands on the ports of a drive that was recovered; or why there is none.
use Rattle.std.specs.Prelude.{◌≡◌, ◌<◌, ℕ, List}
use Rattle.mq_blocks.specs.Blocks.{block_at}
use Rattle.mq_blocks.specs.Drive.{PortState}
use Rattle.mq_blocks.specs.Geometry.{homes_of}
use Rattle.mq_blocks.specs.declared.geometry.Geometry.{Geometry}
use Rattle.mq_drive.specs.Steps.{PortFault}
use Rattle.mq_drive.specs.declared.port.Port.{Ghosts}
use Rattle.mq_drive.specs.declared.port.Ports.{Ports}
use Rattle.mq_calls.specs.declared.entry.FileEntry.{FileEntry}
use Rattle.mq_journal.specs.Numbers.{Start}
use Rattle.mq_recover.specs.Drives.{DriveState, drive_of, view_over}
use Rattle.mq_recover.specs.Standing.{StandsIn}
use Rattle.mq_recover.specs.declared.standing.Standing.{Standing}
use Rattle.mq_tree.specs.Corrupt.{IsCorrupt}
use Rattle.mq_tree.specs.Laid.{IsLaid, map_of}
use Rattle.mq_tree.specs.Volume.{Volume}
use Rattle.mq_tree.specs.declared.corrupt.CorruptCause.{CorruptCause}
use Rattle.mq_tree.specs.declared.corrupt.MountRefusal.{MountRefusal}
use Rattle.mq_tree.specs.declared.corrupt.MountRefusal.TheVariants.{Corrupt, OutOfMemory}
use Rattle.mq_calls.specs.Opening.{IsOpenedOver}

-- what stands on the ports holds this volume
pub record HoldsVolume (g : Geometry) (d : DriveState) (v : Volume) : Type 0 where
  pub standing : Standing
  pub stands : StandsIn g d standing
  pub laid : IsLaid g (map_of g standing.blocks.items) v

-- memory ran out; or what stands on the ports holds no volume, and this is wrong at this block
pub data IsNotMounted (g : Geometry) (d : DriveState) : MountRefusal → Type 0 where
  memory : IsNotMounted g d OutOfMemory
  corrupt : {cause : CorruptCause} {b : ℕ} (s : Standing) → StandsIn g d s
      → IsCorrupt g s.blocks.items cause b → ((v : Volume) → HoldsVolume g d v → ⊥)
      → IsNotMounted g d (Corrupt cause b)

module _ {P : Type 0} {G : Ghosts P} (state : P → PortState) (faults : P → List PortFault) where
  -- The desk was opened over what stands on the ports, which is what they have at home, and holds a volume.
  pub record IsMountedOver (g : Geometry) (ports : Ports P) (o : Start P FileEntry G) : Type 0 where
    pub standing : Standing
    pub stands : StandsIn g (drive_of state ports) standing
    pub homes : (b : ℕ) → b < homes_of g
        → block_at standing.blocks.items b ≡ (view_over g (drive_of state ports)).home b
    pub opened : IsOpenedOver state faults g ports standing o
    pub volume : Volume
    pub laid : IsLaid g (map_of g standing.blocks.items) volume
