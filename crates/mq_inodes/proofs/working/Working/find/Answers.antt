use Rattle.mq_inodes.specs.Pages.{pages_of}
use Rattle.mq_inodes.proofs.Dirs.{found-here, found-beyond}
use Rattle.mq_inodes.proofs.working.Working.find.Goals as goal

pub returns-in-Some : goal.returns-in-Some
returns-in-Some c = found-here (pages_of c.args.self.now) c.args.name.now c.args.blocks.now c.loop-b.b-index c.b-item.result c.held.result.now c.in-Some.inode c.loop-b-test.true c.b-item.is c.held.ensures c.in-Some.ensures c.loop-b.invariant

pub loop-b-preserved : goal.loop-b-preserved
loop-b-preserved c = found-beyond (pages_of c.args.self.now) c.args.name.now c.args.blocks.now c.loop-b.b-index c.b-item.result c.held.result.now c.loop-b-test.true c.b-item.is c.held.ensures c.in_default.ensures c.loop-b.invariant
