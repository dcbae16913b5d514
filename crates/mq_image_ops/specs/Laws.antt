-- What holds of the drive that starts from a recovered image, in one statement each.
use Rattle.std.specs.Prelude.{◌≡◌, ◌<◌, ℕ, Option, None}
use Rattle.mq_blocks.specs.Drive.{FuseName}
use Rattle.mq_blocks.specs.Geometry.{queues_of}
use Rattle.mq_drive.specs.Emu.{emu_state}
use Rattle.mq_drive.specs.declared.emu.EmuPort.{EmuPort}
use Rattle.mq_drive.specs.declared.port.Ports.{Ports}
use Rattle.mq_image.specs.File.{DriveImage}
use Rattle.mq_image_ops.specs.Recovering.{IsRecoveryOf}
use Rattle.mq_image_ops.specs.Standing.{AreStanding, StandsFor}
use Rattle.mq_image_ops.specs.Starts.{AreStarted}
use Rattle.mq_image_ops.specs.Views.{view_of}
use Rattle.mq_image_ops.specs.declared.ports.Failing.{Failing}
use Rattle.mq_image_ops.specs.declared.recovery.RecoveredImage.{RecoveredImage}
use Rattle.mq_ledger.specs.State.{port_at}
use Rattle.mq_recover.specs.Drives.{IsQuiescentDrive, drive_of}
use Rattle.mq_recover.specs.Recovery.{IsStartDrive}
use Rattle.mq_recover.specs.Standing.{StandsIn}
use Rattle.mq_recover.specs.declared.standing.Standing.{Standing}
use Rattle.mq_tree.specs.Laid.{IsLaid, map_of}
use Rattle.mq_tree.specs.Volume.{Volume}

-- ---- the start

-- nothing is under way on the ports
abbrev pub RecoveredDrivesAreStill : Type 0
RecoveredDrivesAreStill =
    (x : DriveImage) (r : RecoveredImage) (fuse : FuseName) (fail : Option Failing) (p : Ports EmuPort)
    → IsRecoveryOf x None r
    → AreStarted fuse fail r.image p
    → IsQuiescentDrive x.geometry (drive_of emu_state p)

-- a journal may start on them
abbrev pub RecoveredDrivesMayStart : Type 0
RecoveredDrivesMayStart =
    (x : DriveImage) (r : RecoveredImage) (fuse : FuseName) (fail : Option Failing) (p : Ports EmuPort)
    → IsRecoveryOf x None r
    → AreStarted fuse fail r.image p
    → IsStartDrive x.geometry (drive_of emu_state p)

-- the root has the base that the recovery found
abbrev pub RecoveredDrivesHaveTheBase : Type 0
RecoveredDrivesHaveTheBase =
    (x : DriveImage) (r : RecoveredImage) (fuse : FuseName) (fail : Option Failing) (p : Ports EmuPort)
    → IsRecoveryOf x None r
    → AreStarted fuse fail r.image p
    → (emu_state p.root).base ≡ r.found.base

-- each queue's doorbell is where it was on the image before the recovery
abbrev pub RecoveredDrivesHaveTheDoorbells : Type 0
RecoveredDrivesHaveTheDoorbells =
    (x : DriveImage) (r : RecoveredImage) (fuse : FuseName) (fail : Option Failing) (p : Ports EmuPort)
    → IsRecoveryOf x None r
    → AreStarted fuse fail r.image p
    → (q : ℕ)
    → q < queues_of x.geometry
    → (port_at (drive_of emu_state p).queues q).doorbell ≡ (view_of x).doorbell q

-- ---- what stands

-- each home block that stands on the ports is what stood on the image before the recovery, by the
-- descriptors that the recovery read
abbrev pub RecoveredDrivesHoldTheBlocks : Type 0
RecoveredDrivesHoldTheBlocks =
    (x : DriveImage) (r : RecoveredImage) (fuse : FuseName) (fail : Option Failing) (p : Ports EmuPort)
    (s : Standing)
    → (recovery : IsRecoveryOf x None r)
    → AreStarted fuse fail r.image p
    → StandsIn x.geometry (drive_of emu_state p) s
    → AreStanding x recovery.ds s.blocks.items

-- with nothing above the base that the recovery found
abbrev pub RecoveredDrivesHaveNoPrefix : Type 0
RecoveredDrivesHaveNoPrefix =
    (x : DriveImage) (r : RecoveredImage) (fuse : FuseName) (fail : Option Failing) (p : Ports EmuPort)
    (s : Standing)
    → IsRecoveryOf x None r
    → AreStarted fuse fail r.image p
    → StandsIn x.geometry (drive_of emu_state p) s
    → (s.prefix ≡ 0) × (s.base ≡ r.found.base) × (s.top ≡ r.found.base)

-- the volume on these blocks is that of the image before the recovery
abbrev pub RecoveredDrivesHoldTheVolume : Type 0
RecoveredDrivesHoldTheVolume =
    (x : DriveImage) (r : RecoveredImage) (fuse : FuseName) (fail : Option Failing) (p : Ports EmuPort)
    (s : Standing) (v : Volume)
    → IsRecoveryOf x None r
    → AreStarted fuse fail r.image p
    → StandsIn x.geometry (drive_of emu_state p) s
    → IsLaid x.geometry (map_of x.geometry s.blocks.items) v
    → StandsFor x v
