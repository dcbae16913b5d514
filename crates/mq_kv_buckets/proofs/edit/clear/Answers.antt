use Rattle.std.proofs.Common.{◌∙◌, ap, drop, arith}
use Rattle.std.proofs.lemmas.List.{length-take-le, length-drop}
use Rattle.mq_blocks.proofs.WindowsWritten.{put_mid-written}
use Rattle.mq_kv_buckets.specs.Buckets.{zero_bytes}
use Rattle.mq_kv_buckets.proofs.RecordsBytes.{length-zeros}
use Rattle.mq_kv_buckets.proofs.edit.clear.Goals as goal

pub returns : goal.returns
returns c = put_mid-written _ _ _ _ _ (c.fill.ensures.after (λ y e. e) ∙ ap zero_bytes (omega (arith, length-take-le c.args.count (drop c.args.from c.args.bytes.now) (omega (arith, length-drop c.args.from c.args.bytes.now))))) (omega (arith, length-zeros c.args.count))
