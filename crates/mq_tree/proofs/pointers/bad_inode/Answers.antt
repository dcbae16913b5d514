use Rattle.std.proofs.Common.{arith, ◌∙◌}
use Rattle.mq_tree.specs.Pointers.{HasWrong}
use Rattle.mq_tree.proofs.PointersByInode.{far-found, middle-found, near-found, wrong-inside}
use Rattle.mq_tree.proofs.pointers.bad_inode.Goals as goal
use Rattle.mq_tree.proofs.pointers.bad_inode.Goals.{then-not-are_near-via-then-not-are_near, then-not-are_near-via-else-not-are_near+then-not-is_right}

pub returns-then-not-are_near : goal.returns-then-not-are_near
returns-then-not-are_near c =
    let at = c.result.view_is ∙ c.inode_block.ensures.is in
    let found : HasWrong c.args.geometry c.args.blocks.now c.args.i c.result.inside.0 = elim c.then-not-are_near.branch [
      | then-not-are_near-via-then-not-are_near w ↦ near-found _ _ c.args.i c.result.inside.0 c.args.inode.now c.block_count-count.result c.requires.is c.block_count-count.ensures.is at w.if-not-are_near.ensures
      | then-not-are_near-via-else-not-are_near+then-not-is_right w ↦ middle-found _ _ c.args.i c.result.inside.0 c.args.inode.now c.block_count-count.result c.requires.is c.block_count-count.ensures.is at w.if-not-is_right.ensures
    ] in
    wrong-inside _ _ c.args.i c.result.inside.0 at (omega (arith, c.result.view_is)) found

pub returns-then-not-are_far : goal.returns-then-not-are_far
returns-then-not-are_far c =
    far-found _ _ c.args.i c.args.inode.now c.block_count-count.result c.requires.is c.block_count-count.ensures.is c.if-not-are_near.ensures c.if-not-is_right.ensures c.if-count-gt-DIRECT.true c.if-not-are_far.ensures
