use Rattle.mq_inodes.specs.Pages.{pages_of}
use Rattle.mq_inodes.proofs.EditsBecoming.{view-then, view-stays}
use Rattle.mq_inodes.proofs.PagesNoting.{noting-all, noting-more, noting-none}
use Rattle.mq_inodes.proofs.working.Working.note_free.Goals as goal

pub loop-b-init : goal.loop-b-init
loop-b-init c = record { view = view-stays c.args.self.now; noted = noting-none (pages_of c.args.self.now) c.args.blocks.now }

pub loop-b-preserved : goal.loop-b-preserved
loop-b-preserved c = record {
  view = view-then c.args.self.now c.loop-b.self c.put_free.new.self c.loop-b.invariant.view c.in_ok-put_free.ensures.view;
  noted = noting-more (pages_of c.args.self.now) (pages_of c.loop-b.self) (pages_of c.put_free.new.self) c.args.blocks.now c.loop-b.b-index c.b-item.result c.loop-b-test.true c.b-item.is c.loop-b.invariant.noted c.in_ok-put_free.ensures.page;
}

pub returns-clause-noted : goal.returns-clause-noted
returns-clause-noted c = noting-all (pages_of c.args.self.now) (pages_of c.loop-b.self) c.args.blocks.now c.loop-b.b-index c.loop-b-test.false c.loop-b.invariant.noted
