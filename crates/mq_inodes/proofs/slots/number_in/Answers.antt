use Rattle.std.proofs.Common.{sym, ap, ◌∙◌, List}
use Rattle.std.specs.Prelude.{Option}
use Rattle.mq_layout.specs.Slots.{Entry}
use Rattle.mq_tree.specs.Volume.{slot_number}
use Rattle.mq_inodes.proofs.DirsEntries.{drop-all, number-hit, number-pass, number-unused}
use Rattle.mq_inodes.proofs.slots.number_in.Goals as goal
use Rattle.mq_inodes.proofs.slots.number_in.Goals.{in-Some+else-eq, in_default}

pub returns-then-eq-clause-is : goal.returns-then-eq-clause-is
returns-then-eq-clause-is c =
    sym (number-hit c.args.name.now c.args.block.now c.loop-at.at _ c.loop-at-test.true c.in-Some.ensures (sym c.if-eq.ensures)) ∙ c.loop-at.invariant

pub loop-at-preserved : goal.loop-at-preserved
loop-at-preserved c = elim c.match-entry.branch [
  | in-Some+else-eq w ↦ sym (number-pass c.args.name.now c.args.block.now c.loop-at.at _ c.loop-at-test.true w.in-Some.ensures (sym w.if-eq.ensures)) ∙ c.loop-at.invariant
  | in_default w ↦ sym (number-unused c.args.name.now c.args.block.now c.loop-at.at c.loop-at-test.true w.in_default.ensures) ∙ c.loop-at.invariant
]

pub returns-clause-is : goal.returns-clause-is
returns-clause-is c = sym (ap (λ (s : List (Option Entry)). slot_number c.loop-at.at c.args.name.now s) (drop-all c.args.block.now c.loop-at.at c.loop-at-test.false)) ∙ c.loop-at.invariant
