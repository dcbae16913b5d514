use Rattle.std.proofs.Common.{◌+◌, ◌≡◌, ap, arith, length, subst, sym}
use Rattle.mq_layout.specs.Places.{inodes_of}
use Rattle.mq_tree.specs.Least.{IsLeastOf}
use Rattle.mq_tree.proofs.DecodedMounting.{inode-form, inode-seen, length-inodes}
use Rattle.mq_tree.proofs.FileTails.{HasEndBelow, ends-all, ends-more, ends-none}
use Rattle.mq_tree.proofs.file_tails.bad_tail.Goals as goal

pub bad_end-requires-clause-form : goal.bad_end-requires-clause-form
bad_end-requires-clause-form c = inode-form c.args.geometry c.args.blocks.now c.args.inodes.now c.loop-inode.inode-index _ c.requires.inodes c.loop-inode-test.true c.requires.table

pub loop-inode-init : goal.loop-inode-init
loop-inode-init c = ends-none c.args.geometry c.args.blocks.now

pub loop-inode-preserved : goal.loop-inode-preserved
loop-inode-preserved c =
    subst (λ o. IsLeastOf (HasEndBelow c.args.geometry c.args.blocks.now (c.loop-inode.inode-index + 1)) o) (sym c.lesser-best.ensures)
    (ends-more c.args.geometry c.args.blocks.now c.loop-inode.inode-index _ c.loop-inode.best c.bad_end.result (inode-seen c.args.geometry c.args.blocks.now c.args.inodes.now c.loop-inode.inode-index _ c.requires.inodes c.loop-inode-test.true) c.loop-inode.invariant c.bad_end.ensures)

pub returns : goal.returns
returns c =
    let n = length-inodes c.args.geometry c.args.blocks.now in
    let m = ap length c.requires.inodes in
    let t = c.loop-inode-test.false in
    let a = c.loop-inode.auto.inode-index-end in
    let e : c.loop-inode.inode-index ≡ inodes_of c.args.geometry = omega arith in
    ends-all c.args.geometry c.args.blocks.now c.loop-inode.best c.requires.pointers (subst (λ i. IsLeastOf (HasEndBelow c.args.geometry c.args.blocks.now i) c.loop-inode.best) e c.loop-inode.invariant)
