use Rattle.std.proofs.Common.{◌≡◌, ℕ, ◌<◌, Some}
use Rattle.std.specs.Prelude.{slice_get}
use Rattle.mq_blocks.specs.Drive.{PortImage}
use Rattle.mq_image.specs.Drives.{HasWidths}
use Rattle.mq_image_ops.proofs.width.an_image_fits_its_file.Given as goal

-- the ports before fit
abbrev pub invariant-loop-port : goal.invariant-loop-port
invariant-loop-port l = (i : ℕ) (p : PortImage) → i < l.port-index → slice_get l.port-items i ≡ Some p → HasWidths p
