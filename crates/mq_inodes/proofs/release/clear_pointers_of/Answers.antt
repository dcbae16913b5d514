use Rattle.mq_inodes.proofs.Released.{pointer-cleared}
use Rattle.mq_inodes.proofs.release.clear_pointers_of.Goals as goal

pub loop-k-preserved : goal.loop-k-preserved
loop-k-preserved c = (pointer-cleared c.args.block.now c.loop-k.block c.set_pointer.new.block c.args.from c.loop-k.k c.loop-k.auto.k c.loop-k-test.true c.set_pointer.ensures.is c.loop-k.invariant.0, c.set_pointer.ensures.bytes)
