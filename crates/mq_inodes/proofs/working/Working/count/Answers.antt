use Rattle.std.proofs.Common.{arith}
use Rattle.mq_inodes.specs.Pages.{pages_of}
use Rattle.mq_inodes.proofs.Dirs.{counted-more}
use Rattle.mq_inodes.proofs.working.Working.count.Goals as goal

pub loop-b-preserved : goal.loop-b-preserved
loop-b-preserved c =
    let e = counted-more (pages_of c.args.self.now) c.args.blocks.now c.loop-b.b-index c.b-item.result c.held.result.now c.count_in-count.result c.loop-b-test.true c.b-item.is c.held.ensures c.count_in-count.ensures.is in
    let i = c.loop-b.invariant.0 in
    let j = c.loop-b.invariant.1 in
    let few = c.count_in-count.ensures.few in
    (omega arith, omega arith)
