use Rattle.std.proofs.Common.{arith, sym, ◌∙◌}
use Rattle.mq_tree.proofs.DecodedMounting.{super-bad}
use Rattle.mq_tree.proofs.TablesFirst.{before-none, before-super, layout-first}
use Rattle.mq_tree.proofs.table.check_super.Goals as goal

pub returns-in-Ok-clause-ok : goal.returns-in-Ok-clause-ok
returns-in-Ok-clause-ok c = before-super c.args.geometry c.args.blocks.now (sym c.stored_block.ensures ∙ c.in-Ok.ensures.sound)

pub returns-in-Err-clause-cause : goal.returns-in-Err-clause-cause
returns-in-Err-clause-cause c = layout-first _ _ 0 _ (before-none _ _) (λ l. absurd (omega arith)) (super-bad _ _ _ c.in-Err.field-0 c.stored_block.ensures c.in-Err.ensures.refused) c.corrupt.ensures
