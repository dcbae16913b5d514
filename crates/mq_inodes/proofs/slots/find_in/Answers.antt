use Rattle.std.proofs.Common.{sym, ap, ◌∙◌, List}
use Rattle.std.specs.Prelude.{Option}
use Rattle.mq_layout.specs.Slots.{Entry}
use Rattle.mq_tree.specs.Volume.{find}
use Rattle.mq_inodes.proofs.DirsEntries.{drop-all, find-hit, find-pass, find-unused}
use Rattle.mq_inodes.proofs.slots.find_in.Goals as goal
use Rattle.mq_inodes.proofs.slots.find_in.Goals.{in-Some+else-eq, in_default}

pub returns-then-eq : goal.returns-then-eq
returns-then-eq c =
    sym (find-hit c.args.name.now c.args.block.now c.loop-at.at _ c.loop-at-test.true c.in-Some.ensures (sym c.if-eq.ensures)) ∙ c.loop-at.invariant

pub loop-at-preserved : goal.loop-at-preserved
loop-at-preserved c = elim c.match-entry.branch [
  | in-Some+else-eq w ↦ sym (find-pass c.args.name.now c.args.block.now c.loop-at.at _ c.loop-at-test.true w.in-Some.ensures (sym w.if-eq.ensures)) ∙ c.loop-at.invariant
  | in_default w ↦ sym (find-unused c.args.name.now c.args.block.now c.loop-at.at c.loop-at-test.true w.in_default.ensures) ∙ c.loop-at.invariant
]

pub returns : goal.returns
returns c = sym (ap (λ (s : List (Option Entry)). find c.args.name.now s) (drop-all c.args.block.now c.loop-at.at c.loop-at-test.false)) ∙ c.loop-at.invariant
