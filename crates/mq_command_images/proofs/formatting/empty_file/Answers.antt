use Rattle.std.proofs.Common.{◌≡◌}
use Rattle.std.proofs.lemmas.Result.{IfOk-weaker}
use Rattle.mq_image.specs.File.{DriveImage, image_bytes}
use Rattle.mq_image_ops.specs.Empty.{IsEmptyDrive}
use Rattle.mq_command_images.proofs.formatting.empty_file.Goals as goal

pub returns : goal.returns
returns c =
    IfOk-weaker c.write_image.result (λ v. v.items ≡ image_bytes c.in_ok-image.image) (λ v. (x : DriveImage) × IsEmptyDrive c.args.geometry x × (v.items ≡ image_bytes x)) (λ v is. (c.in_ok-image.image, c.in_ok-image.ensures.is, is)) c.write_image.ensures
