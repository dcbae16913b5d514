use Rattle.std.proofs.Common.{arith, subst, sym, ◌∙◌, ◌≡◌, true, below_more}
use Rattle.std.proofs.lemmas.Bool.{true≢false}
use Rattle.mq_tree.specs.Decoded.{volume_in}
use Rattle.mq_tree.specs.Phases.{RefusesIn}
use Rattle.mq_tree.specs.Volume.{body, is_used}
use Rattle.mq_tree.specs.Walks.{is_seen}
use Rattle.mq_tree.proofs.DecodedMounting.{inode-low, inode-seen, inodes-end}
use Rattle.mq_tree.proofs.MarksFirst.{lost-first, lost-found}
use Rattle.mq_tree.proofs.Walks.{free-unused, reached-all, used-below}
use Rattle.mq_tree.proofs.reached.check_reached.Goals as goal
use Rattle.mq_tree.proofs.reached.check_reached.Goals.{else-inode-ne0-via-then-inode-ne0+else-not-seen-i, else-inode-ne0-via-else-inode-ne0}

pub bounds-seen-i : goal.bounds-seen-i
bounds-seen-i c = let l = inode-low c.args.geometry c.args.blocks.now c.args.inodes.now c.loop-i.i c.requires.inodes c.loop-i-test.true in let s = c.requires.size in omega arith

pub overflow_cast-i : goal.overflow_cast-i
overflow_cast-i c = let l = inode-low c.args.geometry c.args.blocks.now c.args.inodes.now c.loop-i.i c.requires.inodes c.loop-i-test.true in omega arith

pub inode_block-requires : goal.inode_block-requires
inode_block-requires c = inode-low c.args.geometry c.args.blocks.now c.args.inodes.now c.loop-i.i c.requires.inodes c.loop-i-test.true

pub returns-then-not-seen-i-clause-cause : goal.returns-then-not-seen-i-clause-cause
returns-then-not-seen-i-clause-cause c =
    let at = c.corrupt.view_is ∙ c.inode_block.ensures.is in
    let lost = lost-found c.args.geometry c.args.blocks.now c.args.seen.now c.loop-i.i c.corrupt.inside.0 _ c.requires.table c.requires.walk (inode-low c.args.geometry c.args.blocks.now c.args.inodes.now c.loop-i.i c.requires.inodes c.loop-i-test.true)
    (inode-seen _ _ c.args.inodes.now c.loop-i.i _ c.requires.inodes c.loop-i-test.true) c.if-inode-ne0.true c.if-not-seen-i.true at in
    subst (λ r. RefusesIn c.args.geometry c.args.blocks.now 5 r) (sym c.corrupt-then-not-seen-i.ensures) (lost-first c.args.geometry c.args.blocks.now c.args.seen.now c.loop-i.i c.corrupt.inside.0 c.requires.marked c.requires.walk c.loop-i.invariant at lost)

pub loop-i-preserved : goal.loop-i-preserved
loop-i-preserved c =
    below_more (λ j. is_used (body (volume_in c.args.geometry c.args.blocks.now) j) ≡ true → is_seen c.args.seen.now j ≡ true) c.loop-i.i c.loop-i.invariant (λ used. elim c.else-inode-ne0.branch [
      | else-inode-ne0-via-then-inode-ne0+else-not-seen-i w ↦ w.if-not-seen-i.false
      | else-inode-ne0-via-else-inode-ne0 w ↦
          absurd (true≢false (sym used ∙ free-unused c.args.geometry c.args.blocks.now c.loop-i.i _ c.requires.table (inode-low c.args.geometry c.args.blocks.now c.args.inodes.now c.loop-i.i c.requires.inodes c.loop-i-test.true) (inode-seen _ _ c.args.inodes.now c.loop-i.i _ c.requires.inodes c.loop-i-test.true) w.if-inode-ne0.false))
    ])

pub returns-clause-ok : goal.returns-clause-ok
returns-clause-ok c = reached-all (volume_in c.args.geometry c.args.blocks.now) c.args.seen.now c.requires.walk (λ i used. c.loop-i.invariant i (inodes-end c.args.geometry c.args.blocks.now c.args.inodes.now c.loop-i.i i c.requires.inodes c.loop-i-test.false (used-below c.args.geometry c.args.blocks.now i used)) used)
