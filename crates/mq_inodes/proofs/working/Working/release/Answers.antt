use Rattle.mq_inodes.specs.Pages.{pages_of}
use Rattle.mq_inodes.proofs.Released.{at-item, releasable-along, releases-more}
use Rattle.mq_inodes.proofs.working.Working.release.Goals as goal

pub release_one-requires : goal.release_one-requires
release_one-requires c = releasable-along c.args.self.now c.loop-b.self _ c.b-item.result c.loop-b.invariant (at-item c.args.self.now.geometry (pages_of c.args.self.now) c.args.blocks.now c.loop-b.b-index c.b-item.result c.loop-b-test.true c.b-item.is c.requires)

pub loop-b-preserved : goal.loop-b-preserved
loop-b-preserved c = releases-more c.args.self.now c.loop-b.self c.release_one.new.self c.args.blocks.now c.loop-b.b-index c.b-item.result c.loop-b-test.true c.b-item.is c.loop-b.invariant c.in_ok-release_one.ensures
