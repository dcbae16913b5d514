use Rattle.std.proofs.Common.{arith, ap, List}
use Rattle.std.specs.Prelude.{Option}
use Rattle.mq_layout.specs.Slots.{Entry}
use Rattle.mq_tree.specs.Requests.{count_names}
use Rattle.mq_inodes.proofs.DirsEntries.{count-unused, count-used, drop-all}
use Rattle.mq_inodes.proofs.slots.count_in.Goals as goal
use Rattle.mq_inodes.proofs.slots.count_in.Goals.{in-Some, in_default}

pub loop-at-preserved : goal.loop-at-preserved
loop-at-preserved c =
    let i = c.loop-at.invariant.0 in
    let j = c.loop-at.invariant.1 in
    elim c.match-entry.branch [
      | in-Some w ↦ let e = count-used c.args.block.now c.loop-at.at _ c.loop-at-test.true w.in-Some.ensures in (omega arith, omega arith)
      | in_default w ↦ let e = count-unused c.args.block.now c.loop-at.at c.loop-at-test.true w.in_default.ensures in (omega arith, omega arith)
    ]

pub returns-clause-is : goal.returns-clause-is
returns-clause-is c = let e = ap (λ (s : List (Option Entry)). count_names s) (drop-all c.args.block.now c.loop-at.at c.loop-at-test.false) in let i = c.loop-at.invariant.0 in omega arith
