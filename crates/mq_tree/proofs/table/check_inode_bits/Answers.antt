use Rattle.std.proofs.Common.{arith, sym, ◌∙◌}
use Rattle.mq_layout.specs.Places.{inode_bitmap}
use Rattle.mq_tree.proofs.DecodedMounting.{inode-bad}
use Rattle.mq_tree.proofs.TablesFirst.{before-less, before-marks, clear-at, layout-first}
use Rattle.mq_tree.proofs.table.check_inode_bits.Goals as goal

pub returns-then-is_some-clause-cause : goal.returns-then-is_some-clause-cause
returns-then-is_some-clause-cause c =
    let at = c.b.view_is ∙ c.inode_bitmap.ensures in
    layout-first c.args.geometry c.args.blocks.now c.b.inside.0 _ (before-less c.args.geometry c.args.blocks.now c.b.inside.0 (inode_bitmap c.args.geometry) (omega arith) c.requires.before) (λ l. absurd (omega arith))
    (inode-bad _ _ c.b.inside.0 c.stored_block.result.now c.first_set.result c.inodes.result c.inodes.ensures at c.stored_block.ensures c.first_set.ensures (sym c.is_some.ensures ∙ c.if-is_some.true)) c.corrupt.ensures

pub returns-clause-ok : goal.returns-clause-ok
returns-clause-ok c =
    before-marks c.args.geometry c.args.blocks.now (clear-at c.args.blocks.now c.b.inside.0 (inode_bitmap c.args.geometry) c.stored_block.result.now c.first_set.result c.inodes.result _ (c.b.view_is ∙ c.inode_bitmap.ensures) c.stored_block.ensures c.inodes.ensures c.first_set.ensures (sym c.is_some.ensures ∙ c.if-is_some.false))
    c.requires.before
