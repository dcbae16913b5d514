use Rattle.std.proofs.Common.{arith}
use Rattle.mq_inodes.specs.Pages.{pages_of}
use Rattle.mq_inodes.proofs.Dirs.{found-here, found-beyond}
use Rattle.mq_inodes.proofs.DirsSlotNumbers.{unused-after}
use Rattle.mq_inodes.proofs.working.Working.search_names.Goals as goal

pub returns-in-Some-clause-found : goal.returns-in-Some-clause-found
returns-in-Some-clause-found c = found-here (pages_of c.args.self.now) c.args.name.now c.args.blocks.now c.loop-b.b-index c.b-item.result c.held-page.result.now c.in-Some.inode c.loop-b-test.true c.b-item.is c.held-page.ensures c.in-Some.ensures c.loop-b.invariant.0

pub loop-b-preserved : goal.loop-b-preserved
loop-b-preserved c =
    let p = c.loop-b.invariant.2 in (
      found-beyond (pages_of c.args.self.now) c.args.name.now c.args.blocks.now c.loop-b.b-index c.b-item.result c.held-page.result.now c.loop-b-test.true c.b-item.is c.held-page.ensures c.in_default.ensures c.loop-b.invariant.0,
      unused-after (pages_of c.args.self.now) c.args.blocks.now c.loop-b.b-index c.b-item.result c.held-page.result.now c.loop-b.first c.loop-b.unused c.unused_after-unused.result c.loop-b-test.true c.b-item.is c.held-page.ensures c.unused_after-unused.ensures c.loop-b.invariant.1,
      omega arith,
    )
