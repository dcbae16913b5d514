use Rattle.std.proofs.Common.{arith, below_more}
use Rattle.mq_tree.proofs.names.name_all.Goals as goal

pub loop-at-preserved : goal.loop-at-preserved
loop-at-preserved c = below_more _ _ c.loop-at.invariant c.if-not-slot_names.ensures

pub returns : goal.returns
returns c at small = c.loop-at.invariant at (let t = c.loop-at-test.false in omega arith)
