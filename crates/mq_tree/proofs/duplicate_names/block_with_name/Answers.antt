use Rattle.std.proofs.Common.{arith, ◌∙◌}
use Rattle.mq_tree.proofs.DirectoriesTwins.{name-all, name-more, name-other, name-unused}
use Rattle.mq_tree.proofs.duplicate_names.block_with_name.Goals as goal
use Rattle.mq_tree.proofs.duplicate_names.block_with_name.Goals.{in-Some+else-is_some, in-Some+then-is_some, in_default}

pub loop-k-preserved : goal.loop-k-preserved
loop-k-preserved c = elim c.match-slot_at.branch [
  | in-Some+then-is_some w ↦ name-more c.args.blocks.now c.args.inode.now c.args.names.now c.loop-k.k w.pointer_at-b.result _ c.loop-k.least _ w.get.result w.is_some.result c.loop-k.invariant w.in-Some.ensures w.get.ensures w.is_some.ensures w.if-is_some.true w.pointer_at-b.ensures (w.least-is ∙ w.lesser-least.ensures)
  | in-Some+else-is_some w ↦ name-other c.args.blocks.now c.args.inode.now c.args.names.now c.loop-k.k _ c.loop-k.least _ w.get.result w.is_some.result c.loop-k.invariant w.in-Some.ensures w.get.ensures w.is_some.ensures w.if-is_some.false w.least-is
  | in_default w ↦ name-unused c.args.blocks.now c.args.inode.now c.args.names.now c.loop-k.k c.loop-k.least _ c.loop-k.invariant w.in_default.ensures w.least-is
]

pub returns : goal.returns
returns c =
    name-all c.args.blocks.now c.args.inode.now c.args.names.now c.loop-k.k c.loop-k.least (let t = c.loop-k-test.false in let u = c.loop-k.auto.k-end in let e = c.block_count-k-end.ensures.is in omega arith) c.loop-k.invariant
