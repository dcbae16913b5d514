use Rattle.std.proofs.Common.{sym, ap, ◌∙◌, List}
use Rattle.std.specs.Prelude.{Option}
use Rattle.mq_layout.specs.Slots.{Entry}
use Rattle.mq_tree.specs.Requests.{unused}
use Rattle.mq_inodes.proofs.DirsEntries.{drop-all, unused-free, unused-used}
use Rattle.mq_inodes.proofs.slots.unused_in.Goals as goal

pub returns-in-None-clause-is : goal.returns-in-None-clause-is
returns-in-None-clause-is c = sym (unused-free c.args.block.now c.loop-at.at c.loop-at-test.true c.in-None.ensures) ∙ c.loop-at.invariant

pub loop-at-preserved : goal.loop-at-preserved
loop-at-preserved c = sym (unused-used c.args.block.now c.loop-at.at _ c.loop-at-test.true c.in_default.ensures) ∙ c.loop-at.invariant

pub returns-clause-is : goal.returns-clause-is
returns-clause-is c = sym (ap (λ (s : List (Option Entry)). unused c.loop-at.at s) (drop-all c.args.block.now c.loop-at.at c.loop-at-test.false)) ∙ c.loop-at.invariant
