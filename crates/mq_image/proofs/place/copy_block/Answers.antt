use Rattle.std.proofs.Common.{◌∙◌, sym, ap, length}
use Rattle.mq_blocks.proofs.WindowsWritten.{written-all}
use Rattle.mq_blocks.proofs.BlocksZeros.{length-zeros}
use Rattle.mq_image.proofs.place.copy_block.Goals as goal

pub returns : goal.returns
returns c = c.put.ensures ∙ written-all _ _ (c.requires ∙ sym (ap length (c.bytes_mut.ensures.is ∙ c.in_ok-block.ensures) ∙ length-zeros))
