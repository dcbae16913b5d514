use Rattle.std.proofs.Common.{arith, refl}
use Rattle.mq_tree.proofs.DecodedMounting.{inode-form, inode-seen, inodes-all_seen}
use Rattle.mq_tree.proofs.DirMarks.{dirs-good, dirs-least, dirs-none, good-more, good-unmarked, marks-more, no-marks}
use Rattle.mq_tree.proofs.dirs.bad_dir_block.Goals as goal
use Rattle.mq_tree.proofs.dirs.bad_dir_block.Goals.{else-marks-b-via-then-marks-b+else-not-is_dir_block, else-marks-b-via-else-marks-b}

pub loop-inode-init : goal.loop-inode-init
loop-inode-init c = no-marks c.args.geometry c.args.blocks.now _ 32768 refl refl

pub mark_blocks-requires-clause-form : goal.mark_blocks-requires-clause-form
mark_blocks-requires-clause-form c = inode-form c.args.geometry c.args.blocks.now c.args.inodes.now c.loop-inode.inode-index _ c.requires.inodes c.loop-inode-test.true c.requires.table

pub loop-inode-preserved : goal.loop-inode-preserved
loop-inode-preserved c = marks-more c.args.geometry c.args.blocks.now c.loop-inode.inode-index _ c.loop-inode.marks _ (inode-seen _ _ c.args.inodes.now c.loop-inode.inode-index _ c.requires.inodes c.loop-inode-test.true) c.loop-inode.invariant c.mark_blocks.ensures

pub returns-then-not-is_dir_block-clause-least : goal.returns-then-not-is_dir_block-clause-least
returns-then-not-is_dir_block-clause-least c =
    dirs-least c.args.geometry c.args.blocks.now c.loop-inode.inode-index c.loop-b.b c.loop-inode.marks c.stored_block.result.now (inodes-all_seen c.args.geometry c.args.blocks.now c.args.inodes.now c.loop-inode.inode-index c.requires.inodes c.loop-inode.auto.inode-index-end c.loop-inode-test.false) c.loop-inode.invariant c.loop-b.invariant c.if-marks-b.true c.stored_block.ensures
    c.if-not-is_dir_block.ensures

pub returns-clause-least : goal.returns-clause-least
returns-clause-least c =
    dirs-none c.args.geometry c.args.blocks.now c.loop-inode.inode-index c.loop-b.b c.loop-inode.marks (inodes-all_seen c.args.geometry c.args.blocks.now c.args.inodes.now c.loop-inode.inode-index c.requires.inodes c.loop-inode.auto.inode-index-end c.loop-inode-test.false) (let e = c.homes-b-end.ensures in let t = c.loop-b-test.false in omega arith) c.loop-inode.invariant c.loop-b.invariant

pub returns-clause-dirs : goal.returns-clause-dirs
returns-clause-dirs c =
    dirs-good c.args.geometry c.args.blocks.now c.loop-inode.inode-index c.loop-b.b c.loop-inode.marks (inodes-all_seen c.args.geometry c.args.blocks.now c.args.inodes.now c.loop-inode.inode-index c.requires.inodes c.loop-inode.auto.inode-index-end c.loop-inode-test.false) (let e = c.homes-b-end.ensures in let t = c.loop-b-test.false in omega arith) c.loop-inode.invariant c.loop-b.invariant

pub loop-b-preserved : goal.loop-b-preserved
loop-b-preserved c =
    elim c.else-marks-b.branch [
      | else-marks-b-via-then-marks-b+else-not-is_dir_block w ↦ good-more c.args.geometry c.args.blocks.now c.loop-inode.marks c.loop-b.b w.stored_block.result.now w.stored_block.ensures w.if-not-is_dir_block.ensures c.loop-b.invariant
      | else-marks-b-via-else-marks-b w ↦ good-unmarked c.args.geometry c.args.blocks.now c.loop-inode.marks c.loop-b.b w.if-marks-b.false c.loop-b.invariant
    ]
