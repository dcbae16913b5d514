use Rattle.std.proofs.Common.{arith, ap, below_more, ◌∙◌, ◌≡◌, ◌≤◌}
use Rattle.mq_layout.specs.declared.inode.Inode.{Inode}
use Rattle.mq_tree.specs.Decoded.{the_inode, volume_in}
use Rattle.mq_tree.specs.Links.{links_to}
use Rattle.mq_tree.proofs.DecodedMounting.{inode-low, inode-seen, inodes-past}
use Rattle.mq_tree.proofs.LinksShared.{below-named, shared-least}
use Rattle.mq_tree.proofs.links.shared_directory.Goals as goal
use Rattle.mq_tree.proofs.links.shared_directory.Goals.{else-inode-eq-DIRECTORY-via-then-inode-eq-DIRECTORY+else-counts-i-gt1, else-inode-eq-DIRECTORY-via-else-inode-eq-DIRECTORY}

pub loop-i-init : goal.loop-i-init
loop-i-init c j low = absurd (omega arith)

pub bounds-counts-i : goal.bounds-counts-i
bounds-counts-i c = let l = inode-low c.args.geometry c.args.blocks.now c.args.inodes.now c.loop-i.i c.requires.inodes c.loop-i-test.true in let s = c.requires.size in omega arith

pub overflow_cast-i : goal.overflow_cast-i
overflow_cast-i c = let l = inode-low c.args.geometry c.args.blocks.now c.args.inodes.now c.loop-i.i c.requires.inodes c.loop-i-test.true in omega arith

pub inode_block-requires : goal.inode_block-requires
inode_block-requires c = inode-low c.args.geometry c.args.blocks.now c.args.inodes.now c.loop-i.i c.requires.inodes c.loop-i-test.true

pub returns-then-counts-i-gt1 : goal.returns-then-counts-i-gt1
returns-then-counts-i-gt1 c =
    let low = inode-low c.args.geometry c.args.blocks.now c.args.inodes.now c.loop-i.i c.requires.inodes c.loop-i-test.true in
    shared-least c.args.geometry c.args.blocks.now c.loop-i.i c.result.inside.0 _ _ c.requires.table c.requires.pointers low (inode-seen _ _ c.args.inodes.now c.loop-i.i _ c.requires.inodes c.loop-i-test.true) c.if-inode-eq-DIRECTORY.true (c.requires.counted c.loop-i.i low)
    (let t = c.if-counts-i-gt1.true in omega arith) (c.result.view_is ∙ c.inode_block.ensures.is) c.loop-i.invariant

pub loop-i-preserved : goal.loop-i-preserved
loop-i-preserved c =
    let g = c.args.geometry in
    let s = c.args.blocks.now in
    let low = inode-low g s c.args.inodes.now c.loop-i.i c.requires.inodes c.loop-i-test.true in
    below_more (λ j. (the_inode g s j).kind ≡ 2 → links_to (volume_in g s) j ≤ 1) c.loop-i.i c.loop-i.invariant (λ two. elim c.else-inode-eq-DIRECTORY.branch [
      | else-inode-eq-DIRECTORY-via-then-inode-eq-DIRECTORY+else-counts-i-gt1 w ↦ let t = w.if-counts-i-gt1.false in let e = c.requires.counted c.loop-i.i low in omega arith
      | else-inode-eq-DIRECTORY-via-else-inode-eq-DIRECTORY w ↦ absurd (w.if-inode-eq-DIRECTORY.false (ap (λ (n : Inode). n.kind) (inode-seen g s c.args.inodes.now c.loop-i.i _ c.requires.inodes c.loop-i-test.true) ∙ two))
    ])

pub returns : goal.returns
returns c = below-named c.args.geometry c.args.blocks.now c.loop-i.i c.requires.table (inodes-past c.args.geometry c.args.blocks.now c.args.inodes.now c.loop-i.i c.requires.inodes c.loop-i-test.false) c.loop-i.invariant
