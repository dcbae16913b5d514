use Rattle.std.proofs.Common.{arith, ◌∙◌}
use Rattle.mq_tree.proofs.DecodedMounting.{inode-low, inode-seen, inodes-end}
use Rattle.mq_tree.proofs.LinksCounted.{linked-more, linked-other}
use Rattle.mq_tree.proofs.LinksShared.{miscounted-least}
use Rattle.mq_tree.proofs.links.bad_count.Goals as goal

pub loop-i-init : goal.loop-i-init
loop-i-init c j low = absurd (omega arith)

pub bounds-counts-i : goal.bounds-counts-i
bounds-counts-i c = let l = inode-low c.args.geometry c.args.blocks.now c.args.inodes.now c.loop-i.i c.requires.inodes c.loop-i-test.true in let s = c.requires.size in omega arith

pub overflow_cast-i : goal.overflow_cast-i
overflow_cast-i c = let l = inode-low c.args.geometry c.args.blocks.now c.args.inodes.now c.loop-i.i c.requires.inodes c.loop-i-test.true in omega arith

pub inode_block-requires : goal.inode_block-requires
inode_block-requires c = inode-low c.args.geometry c.args.blocks.now c.args.inodes.now c.loop-i.i c.requires.inodes c.loop-i-test.true

pub returns-then-not-has_links : goal.returns-then-not-has_links
returns-then-not-has_links c =
    let low = inode-low c.args.geometry c.args.blocks.now c.args.inodes.now c.loop-i.i c.requires.inodes c.loop-i-test.true in
    miscounted-least c.args.geometry c.args.blocks.now c.loop-i.i c.result.inside.0 (c.result.view_is ∙ c.inode_block.ensures.is) c.loop-i.invariant (linked-other c.args.geometry c.args.blocks.now c.loop-i.i c.result.inside.0 _ _ c.has_links.result low
    (inode-seen _ _ c.args.inodes.now c.loop-i.i _ c.requires.inodes c.loop-i-test.true) (c.requires.counted c.loop-i.i low) c.has_links.ensures c.if-not-has_links.true (c.result.view_is ∙ c.inode_block.ensures.is))

pub loop-i-preserved : goal.loop-i-preserved
loop-i-preserved c =
    let low = inode-low c.args.geometry c.args.blocks.now c.args.inodes.now c.loop-i.i c.requires.inodes c.loop-i-test.true in
    linked-more c.args.geometry c.args.blocks.now c.loop-i.i _ _ c.has_links.result c.loop-i.invariant (inode-seen _ _ c.args.inodes.now c.loop-i.i _ c.requires.inodes c.loop-i-test.true) (c.requires.counted c.loop-i.i low) c.has_links.ensures c.if-not-has_links.false

pub returns : goal.returns
returns c i low kind = c.loop-i.invariant i (inodes-end c.args.geometry c.args.blocks.now c.args.inodes.now c.loop-i.i i c.requires.inodes c.loop-i-test.false low) kind
