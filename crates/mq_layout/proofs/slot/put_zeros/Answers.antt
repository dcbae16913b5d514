use Rattle.std.proofs.Common.{◌∙◌, drop, arith}
use Rattle.std.proofs.lemmas.List.{length-take-le, length-drop}
use Rattle.mq_blocks.proofs.WindowsWritten.{put_mid-written}
use Rattle.mq_layout.proofs.FieldsWrites.{zeros-is}
use Rattle.mq_layout.proofs.FieldsZeros.{length-zero_bytes}
use Rattle.mq_layout.proofs.slot.put_zeros.Goals as goal

pub returns-clause-is : goal.returns-clause-is
returns-clause-is c = put_mid-written _ _ _ _ _ (c.fill.ensures.after (λ y e. e) ∙ zeros-is _ _ (omega (arith, length-take-le c.args.count (drop c.args.from c.args.block.now) (omega (arith, length-drop c.args.from c.args.block.now))))) (omega (arith, length-zero_bytes c.args.count))
