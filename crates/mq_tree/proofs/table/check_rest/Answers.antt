use Rattle.std.proofs.Common.{arith, ◌+◌}
use Rattle.mq_layout.specs.Places.{table_first}
use Rattle.mq_tree.proofs.DecodedMounting.{rest-bad, rest-good}
use Rattle.mq_tree.proofs.TablesFirst.{before-less, before-rest, before-zeros, layout-first}
use Rattle.mq_tree.proofs.table.check_rest.Goals as goal

pub loop-b-init : goal.loop-b-init
loop-b-init c =
    before-less c.args.geometry c.args.blocks.now _ (table_first c.args.geometry + 1024) (let e = c.table_first.ensures in let v = c.b.view_is in omega arith) (before-rest c.args.geometry c.args.blocks.now c.requires.before)

pub returns-then-not-is_zero-clause-cause : goal.returns-then-not-is_zero-clause-cause
returns-then-not-is_zero-clause-cause c =
    layout-first c.args.geometry c.args.blocks.now c.loop-b.b _ c.loop-b.invariant (λ l. c.requires.root)
    (rest-bad _ _ c.loop-b.b c.stored_block.result.now c.is_zero.result (let e = c.table_first.ensures in let v = c.b.view_is in let a = c.loop-b.auto.b in omega arith) (let t = c.loop-b-test.true in let e = c.meta-b-end.ensures in omega arith) c.stored_block.ensures c.is_zero.ensures c.if-not-is_zero.true) c.corrupt.ensures

pub loop-b-preserved : goal.loop-b-preserved
loop-b-preserved c =
    before-zeros c.args.geometry c.args.blocks.now c.loop-b.b (let e = c.table_first.ensures in let v = c.b.view_is in let a = c.loop-b.auto.b in omega arith) (rest-good c.args.blocks.now c.loop-b.b c.stored_block.result.now c.is_zero.result c.stored_block.ensures c.is_zero.ensures c.if-not-is_zero.false) c.loop-b.invariant

pub returns-clause-ok : goal.returns-clause-ok
returns-clause-ok c = before-less c.args.geometry c.args.blocks.now _ c.loop-b.b (let t = c.loop-b-test.false in let e = c.meta-b-end.ensures in omega arith) c.loop-b.invariant
