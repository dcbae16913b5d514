use Rattle.std.proofs.Common.{arith}
use Rattle.mq_drive.proofs.Slots.{settled_all}
use Rattle.mq_drive.proofs.store.settle.Goals as goal

pub returns : goal.returns
returns c = settled_all c.loop-count.flushed.items c.args.staged.now.items c.loop-count.count c.args.to c.loop-count.invariant.same (omega arith) c.loop-count.invariant.settled
