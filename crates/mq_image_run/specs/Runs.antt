-- What a run makes of an image, whatever was played on it.
use Rattle.std.specs.Prelude.{◌≡◌, None}
use Rattle.std.specs.List.{All}
use Rattle.mq_blocks.specs.Drive.{FuseName}
use Rattle.mq_drive.specs.declared.emu.EmuPort.{EmuPort}
use Rattle.mq_drive.specs.declared.port.Ports.{Ports}
use Rattle.mq_image.specs.Drives.{HasWidths, IsDrive}
use Rattle.mq_image.specs.File.{DriveImage}
use Rattle.mq_image_ops.specs.Recovering.{IsRecoveryOf}
use Rattle.mq_image_ops.specs.declared.recovery.RecoveredImage.{RecoveredImage}
use Rattle.mq_image_run.specs.Drives.{HasStopped}
use Rattle.mq_image_run.specs.Limits.{AreWithin}
use Rattle.mq_image_run.specs.declared.options.DriveOptions.{DriveOptions}
use Rattle.mq_image_run.specs.declared.ran.PlayedImage.{PlayedImage}

-- The image was recovered, whole, and is within the limits of a run. This was played on the drive that started from
-- what the recovery left, and the new image is what the cut of its power at the end left; it fits its file.
pub record IsPlayedOn {T : Type 0} (Plays : Ports EmuPort → T → Ports EmuPort → Type 0) (x : DriveImage)
    (o : DriveOptions) (r : PlayedImage T) : Type 0 where
  pub recovered : RecoveredImage
  pub recovery : IsRecoveryOf x None recovered
  pub within : AreWithin x recovered.found.base
  pub base_is : r.base ≡ recovered.found.base
  pub fuse : FuseName
  pub power : fuse.limit ≡ o.limit
  pub stops : HasStopped Plays fuse recovered.image o r.played r.failed r.image.ports r.events
  pub geometry : r.image.geometry ≡ x.geometry
  pub drive : IsDrive r.image
  pub widths : All HasWidths r.image.ports
