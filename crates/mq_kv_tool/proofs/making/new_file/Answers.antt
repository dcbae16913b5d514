use Rattle.std.proofs.Common.{◌≡◌}
use Rattle.std.proofs.lemmas.Result.{IfOk-weaker}
use Rattle.mq_image.specs.File.{image_bytes}
use Rattle.mq_kv_tool.specs.Makes.{IsNewFile}
use Rattle.mq_kv_tool.proofs.making.new_file.Goals as goal

pub returns : goal.returns
returns c =
    IfOk-weaker c.write_image.result (λ v. v.items ≡ image_bytes c.in_ok-image.image) (λ v. IsNewFile v.items)
    (λ v is. record { geometry = c.new_shape.result; shape = c.new_shape.ensures; x = c.in_ok-image.image; blank = c.in_ok-image.ensures.is; file = is }) c.write_image.ensures
