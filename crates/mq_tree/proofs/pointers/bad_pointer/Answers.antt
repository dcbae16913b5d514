use Rattle.std.proofs.Common.{arith, subst, sym, ◌+◌}
use Rattle.mq_tree.specs.Least.{IsLeastOf}
use Rattle.mq_tree.specs.Pointers.{HasWrong}
use Rattle.mq_tree.proofs.DecodedMounting.{inode-form, inode-low, inode-seen, inodes-all_seen}
use Rattle.mq_tree.proofs.LeastEach.{IsWrongBelow, least-more, least-none}
use Rattle.mq_tree.proofs.PointersByInode.{pointers-searched}
use Rattle.mq_tree.proofs.pointers.bad_pointer.Goals as goal

pub overflow_cast-i : goal.overflow_cast-i
overflow_cast-i c = let l = inode-low c.args.geometry c.args.blocks.now c.args.inodes.now c.loop-i.i c.requires.inodes c.loop-i-test.true in omega arith

pub bad_inode-requires-clause-low : goal.bad_inode-requires-clause-low
bad_inode-requires-clause-low c = inode-low _ c.args.blocks.now c.args.inodes.now c.loop-i.i c.requires.inodes c.loop-i-test.true

pub bad_inode-requires-clause-is : goal.bad_inode-requires-clause-is
bad_inode-requires-clause-is c = inode-seen _ _ c.args.inodes.now c.loop-i.i _ c.requires.inodes c.loop-i-test.true

pub bad_inode-requires-clause-form : goal.bad_inode-requires-clause-form
bad_inode-requires-clause-form c = inode-form c.args.geometry c.args.blocks.now c.args.inodes.now c.loop-i.i _ c.requires.inodes c.loop-i-test.true c.requires.table

pub loop-i-init : goal.loop-i-init
loop-i-init c = least-none (HasWrong c.args.geometry c.args.blocks.now)

pub loop-i-preserved : goal.loop-i-preserved
loop-i-preserved c =
    let W = HasWrong c.args.geometry c.args.blocks.now in
    subst (IsLeastOf (IsWrongBelow W (c.loop-i.i + 1))) (sym c.lesser-best.ensures) (least-more W c.loop-i.i c.loop-i.best c.bad_inode.result c.loop-i.invariant c.bad_inode.ensures)

pub returns : goal.returns
returns c = pointers-searched c.args.geometry c.args.blocks.now c.loop-i.i c.loop-i.best c.requires.table (inodes-all_seen c.args.geometry c.args.blocks.now c.args.inodes.now c.loop-i.i c.requires.inodes c.loop-i.auto.i-end c.loop-i-test.false) c.loop-i.invariant
