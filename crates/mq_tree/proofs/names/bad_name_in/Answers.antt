use Rattle.std.proofs.Common.{arith, ◌∙◌}
use Rattle.mq_tree.proofs.DecodedNaming.{all-named, block-seen, not-all, other-all, other-more, other-skip}
use Rattle.mq_tree.proofs.names.bad_name_in.Goals as goal
use Rattle.mq_tree.proofs.names.bad_name_in.Goals.{else-not-name_all, then-not-name_all}

pub name_all-requires : goal.name_all-requires
name_all-requires c =
    block-seen c.args.blocks.now c.args.inode.now c.loop-place.place c.pointer_at-b.result c.stored_block.result.now c.requires.dir c.if-inode-ne-DIRECTORY.false (let e = c.block_count-place-end.ensures.is in let t = c.loop-place-test.true in omega arith) c.pointer_at-b.ensures c.stored_block.ensures

pub loop-place-preserved : goal.loop-place-preserved
loop-place-preserved c = elim c.if-not-name_all.branch [
  | then-not-name_all w ↦ other-more c.args.blocks.now c.args.inodes.now c.args.inode.now c.loop-place.place c.pointer_at-b.result c.stored_block.result.now c.loop-place.least _ c.pointer_at-b.ensures c.stored_block.ensures (not-all c.args.inodes.now c.stored_block.result.now c.name_all.result c.name_all.ensures w.if-not-name_all.true) c.loop-place.invariant (w.least-is ∙ w.lesser-least.ensures)
  | else-not-name_all w ↦ other-skip c.args.blocks.now c.args.inodes.now c.args.inode.now c.loop-place.place c.pointer_at-b.result c.stored_block.result.now c.loop-place.least _ c.pointer_at-b.ensures c.stored_block.ensures (all-named c.args.inodes.now c.stored_block.result.now c.name_all.result c.name_all.ensures w.if-not-name_all.false) c.loop-place.invariant w.least-is
]

pub returns : goal.returns
returns c =
    other-all c.args.blocks.now c.args.inodes.now c.args.inode.now c.loop-place.place c.loop-place.least c.if-inode-ne-DIRECTORY.false (let e = c.block_count-place-end.ensures.is in let t = c.loop-place-test.false in let u = c.loop-place.auto.place-end in omega arith) c.loop-place.invariant
