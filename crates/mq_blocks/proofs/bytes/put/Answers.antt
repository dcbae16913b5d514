use Rattle.std.proofs.Common.{arith}
use Rattle.mq_blocks.proofs.WindowsWritten.{put_mid-written}
use Rattle.mq_blocks.proofs.bytes.put.Goals as goal

pub returns : goal.returns
returns c = put_mid-written _ _ _ _ _ c.copy_from_slice.ensures.after (omega arith)
