-- Why nothing is played on an image.
use Rattle.std.specs.Prelude.{ℕ, List, None, Option}
use Rattle.mq_blocks.specs.Descriptor.{Descriptor}
use Rattle.mq_blocks.specs.Drive.{FuseName}
use Rattle.mq_drive.specs.declared.emu.EmuPort.{EmuPort}
use Rattle.mq_drive.specs.declared.port.Ports.{Ports}
use Rattle.mq_image.specs.File.{DriveImage}
use Rattle.mq_image_ops.specs.Recovering.{IsRecoveryOf}
use Rattle.mq_image_ops.specs.Standing.{Reads, RefusesDrive}
use Rattle.mq_image_ops.specs.Starts.{AreStarted}
use Rattle.mq_image_ops.specs.declared.ports.Failing.{Failing}
use Rattle.mq_image_ops.specs.declared.recovery.RecoveredImage.{RecoveredImage}
use Rattle.mq_recover.specs.declared.refusal.ImageFault.{ImageFault}
use Rattle.mq_recover.specs.declared.refusal.ImageFault.TheVariants.{Limit, OutOfMemory}
use Rattle.mq_image_run.specs.Limits.{AreWithin, IsFirstAbove}
use Rattle.mq_image_run.specs.declared.unplayed.Unplayed.{Unplayed}
use Rattle.mq_image_run.specs.declared.unplayed.Unplayed.TheVariants.{Image, Refused}

-- The image is not readable, and this is the first cause; or its greatest number or a doorbell is above the
-- limit of a run; or memory ran out.
pub data IsUnfit (x : DriveImage) : ImageFault → Type 0 where
  not_readable : (e : ImageFault) → RefusesDrive x e → IsUnfit x e
  above_limit : {n : ℕ} (ds : List Descriptor) (top : ℕ) → Reads x ds top → IsFirstAbove x top n
      → IsUnfit x (Limit n)
  wanting : IsUnfit x OutOfMemory

-- What was to be played refused the drive that starts from what a recovery of the image left, with the failing
-- command that was asked for; the image is within the limits of a run.
pub record IsRefusedBy {E : Type 0} (Refuses : Ports EmuPort → E → Type 0) (fail : Option Failing) (x : DriveImage)
    (e : E) : Type 0 where
  pub recovered : RecoveredImage
  pub recovery : IsRecoveryOf x None recovered
  pub within : AreWithin x recovered.found.base
  pub fuse : FuseName
  pub ports : Ports EmuPort
  pub started : AreStarted fuse fail recovered.image ports
  pub refused : Refuses ports e

abbrev pub IsUnplayed : {E : Type 0} → (Ports EmuPort → E → Type 0) → Option Failing → DriveImage → Unplayed E → Type 0
IsUnplayed Refuses fail x (Image e) = IsUnfit x e
IsUnplayed Refuses fail x (Refused e) = IsRefusedBy Refuses fail x e
