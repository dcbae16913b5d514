use Rattle.std.proofs.Common.{arith}
use Rattle.mq_inodes.specs.Pages.{pages_of}
use Rattle.mq_inodes.proofs.DirsSlotNumbers.{unused-found, unused-passed}
use Rattle.mq_inodes.proofs.working.Working.unused.Goals as goal

pub returns-in-Some : goal.returns-in-Some
returns-in-Some c = unused-found (pages_of c.args.self.now) c.args.blocks.now c.loop-b.b-index c.b-item.result c.held.result.now c.loop-b.first c.in-Some.at c.loop-b-test.true c.b-item.is c.held.ensures c.in-Some.ensures.is c.loop-b.invariant.0

pub loop-b-preserved : goal.loop-b-preserved
loop-b-preserved c =
    let p = c.loop-b.invariant.1 in
    (unused-passed (pages_of c.args.self.now) c.args.blocks.now c.loop-b.b-index c.b-item.result c.held.result.now c.loop-b.first c.loop-b-test.true c.b-item.is c.held.ensures c.in_default.ensures.is c.loop-b.invariant.0, omega arith)
