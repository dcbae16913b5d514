-- The drive that starts from a recovered image is ready.
use Rattle.std.proofs.Common.{◌≤◌, ◌^◌, None, Option, arith, subst, sym}
use Rattle.mq_blocks.specs.Drive.{FuseName}
use Rattle.mq_blocks.specs.declared.geometry.Geometry.{Geometry}
use Rattle.mq_drive.specs.declared.emu.EmuPort.{EmuPort}
use Rattle.mq_drive.specs.declared.port.Ports.{Ports}
use Rattle.mq_image.specs.File.{DriveImage}
use Rattle.mq_image_ops.specs.Laws.{RecoveredDrivesAreStill, RecoveredDrivesHaveNoPrefix, RecoveredDrivesMayStart}
use Rattle.mq_image_ops.specs.Recovering.{IsRecoveryOf}
use Rattle.mq_image_ops.specs.Starts.{AreStarted}
use Rattle.mq_image_ops.specs.declared.ports.Failing.{Failing}
use Rattle.mq_image_ops.specs.declared.recovery.RecoveredImage.{RecoveredImage}
use Rattle.mq_image_run.specs.Drives.{IsReady}

pub ready : RecoveredDrivesAreStill → RecoveredDrivesMayStart → RecoveredDrivesHaveNoPrefix → (x : DriveImage) (r : RecoveredImage) (fuse : FuseName) (fail : Option Failing) (ports : Ports EmuPort) → IsRecoveryOf x None r → AreStarted fuse fail r.image ports → r.found.base ≤ 2 ^ 62 → IsReady r.image.geometry ports
ready still start none x r fuse fail ports recovery started low = subst (λ (g : Geometry). IsReady g ports) (sym recovery.geometry) (record {
  still = still x r fuse fail ports recovery started;
  start = start x r fuse fail ports recovery started;
  low = λ s stands. let same = (none x r fuse fail ports s recovery started stands).1 in omega (arith, same, low);
})
