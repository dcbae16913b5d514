-- The image that a run leaves.
use Rattle.std.proofs.Common.{◌≡◌, ◌∙◌, ℕ, Bool, List, None, sym, subst}
use Rattle.mq_blocks.specs.Drive.{FuseName, PortImage}
use Rattle.mq_blocks.specs.declared.geometry.Geometry.{Geometry}
use Rattle.mq_image.specs.Drives.{IsDrive}
use Rattle.mq_image.specs.File.{DriveImage}
use Rattle.mq_image_ops.specs.Recovering.{IsRecoveryOf}
use Rattle.mq_image_ops.specs.declared.recovery.RecoveredImage.{RecoveredImage}
use Rattle.mq_image_ops.proofs.CutsRecoverings.{left-drive}
use Rattle.mq_drive.specs.declared.emu.EmuPort.{EmuPort}
use Rattle.mq_drive.specs.declared.port.Ports.{Ports}
use Rattle.mq_image_run.specs.Drives.{HasStopped}
use Rattle.mq_image_run.specs.declared.options.DriveOptions.{DriveOptions}

module _ {T : Type 0} (Plays : Ports EmuPort → T → Ports EmuPort → Type 0) (x : DriveImage) (r : RecoveredImage) (recovery : IsRecoveryOf x None r) (fuse : FuseName) (o : DriveOptions) (played : T) (failed : Bool) (images : List PortImage) (events : ℕ) (stops : HasStopped Plays fuse r.image o played failed images events) where
  abbrev of_drive : Geometry → List PortImage → DriveImage
  of_drive g ports = record { geometry = g; ports = ports }

  pub run-drive : (g : Geometry) → g ≡ x.geometry → IsDrive (of_drive g images)
  run-drive g same =
      let drives = stops.drives in
      let left : IsDrive (of_drive r.image.geometry images) = left-drive r.image drives.end o.pick images stops.seats drives.cut drives.kept.same_ports in
      subst (λ (z : Geometry). IsDrive (of_drive z images)) (recovery.geometry ∙ sym same) left
