use Rattle.mq_exec.proofs.RemovesFreeing.{bitmaps-all, bitmaps-more, bitmaps-only, bitmaps-start}
use Rattle.mq_exec.proofs.remove.bitmaps.Goals as goal

pub loop-b-init : goal.loop-b-init
loop-b-init c = bitmaps-start c.args.working.now.geometry c.args.blocks.now _ c.new-bitmaps.ensures.items

pub loop-b-preserved : goal.loop-b-preserved
loop-b-preserved c = bitmaps-more c.args.working.now.geometry c.args.blocks.now c.loop-b.bitmaps.items _ c.loop-b.b-index c.b-item.result c.bitmap_of.result c.loop-b-test.true c.b-item.is c.bitmap_of.ensures c.in_ok-push_new.ensures.there c.in_ok-push_new.ensures.kept c.in_ok-push_new.ensures.only c.loop-b.invariant

pub returns-clause-all : goal.returns-clause-all
returns-clause-all c = bitmaps-all c.args.working.now.geometry c.args.blocks.now _ _ c.loop-b-test.false c.loop-b.invariant

pub returns-clause-only : goal.returns-clause-only
returns-clause-only c = bitmaps-only c.args.working.now.geometry c.args.blocks.now _ _ c.loop-b.invariant
