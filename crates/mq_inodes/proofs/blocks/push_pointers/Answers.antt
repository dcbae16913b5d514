use Rattle.mq_layout.specs.Bits.{pointer_of}
use Rattle.mq_inodes.proofs.LaidNodes.{table-push}
use Rattle.mq_inodes.proofs.blocks.push_pointers.Goals as goal

pub loop-k-preserved : goal.loop-k-preserved
loop-k-preserved c = table-push (pointer_of c.args.page.now) c.loop-k.k c.args.blocks.now.items _ _ c.pointer.result c.loop-k.invariant c.in_ok-push.ensures.items c.pointer.ensures
