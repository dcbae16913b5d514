use Rattle.std.proofs.Common.{arith, subst, sym, ◌∙◌}
use Rattle.mq_layout.specs.Places.{zone_bitmap}
use Rattle.mq_tree.proofs.DecodedMounting.{Found, zone-bad}
use Rattle.mq_tree.proofs.TablesFirst.{before-less, before-zone, clear-at, layout-first}
use Rattle.mq_tree.proofs.table.check_zone_bits.Goals as goal

pub returns-then-is_some-clause-cause : goal.returns-then-is_some-clause-cause
returns-then-is_some-clause-cause c =
    let at = c.b.view_is ∙ c.zone_bitmap.ensures in
    let low = c.loop-zone-test.true in
    layout-first c.args.geometry c.args.blocks.now c.b.inside.0 _ (before-less c.args.geometry c.args.blocks.now c.b.inside.0 (zone_bitmap c.loop-zone.zone) (omega arith) c.loop-zone.invariant) (λ l. absurd (omega arith))
    (zone-bad _ _ c.loop-zone.zone c.b.inside.0 c.stored_block.result.now c.first_set.result (omega arith) at c.stored_block.ensures (subst (λ n. Found c.first_set.result c.stored_block.result.now n) c.zone.ensures c.first_set.ensures) (sym c.is_some.ensures ∙ c.if-is_some.true)) c.corrupt.ensures

pub loop-zone-preserved : goal.loop-zone-preserved
loop-zone-preserved c =
    before-zone c.args.geometry c.args.blocks.now c.loop-zone.zone (let low = c.loop-zone-test.true in omega arith) (clear-at c.args.blocks.now c.b.inside.0 (zone_bitmap c.loop-zone.zone) c.stored_block.result.now c.first_set.result c.zone.result _ (c.b.view_is ∙ c.zone_bitmap.ensures) c.stored_block.ensures c.zone.ensures c.first_set.ensures (sym c.is_some.ensures ∙ c.if-is_some.false))
    c.loop-zone.invariant

pub returns-clause-ok : goal.returns-clause-ok
returns-clause-ok c = before-less c.args.geometry c.args.blocks.now _ (zone_bitmap c.loop-zone.zone) (let t = c.loop-zone-test.false in omega arith) c.loop-zone.invariant
