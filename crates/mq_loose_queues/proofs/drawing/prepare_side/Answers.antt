use Rattle.std.proofs.Common.{ap, map, ◌∙◌}
use Rattle.mq_blocks.specs.Geometry.{homes_of}
use Rattle.mq_loose_queues.specs.Draws.{written_as}
use Rattle.mq_loose_queues.proofs.Readied.{if_ok, on_ok, planned, prepared_is, whole_writes}
use Rattle.mq_loose_queues.proofs.drawing.prepare_side.Goals as goal

pub prepare-requires-clause-plan : goal.prepare-requires-clause-plan
prepare-requires-clause-plan g c =
    let copied = ap (map written_as) c.deref.ensures.value ∙ c.in_ok-copies.ensures.is in
    planned (homes_of c.args.side.now.pmr.geometry) c.deref.result.now c.args.writes.now c.args.blocks.now _ copied c.requires.blocks c.in_ok-plan.ensures c.requires.rising

pub returns-clause-commit : goal.returns-clause-commit
returns-clause-commit g c =
    let copied = ap (map written_as) c.deref.ensures.value ∙ c.in_ok-copies.ensures.is in
    if_ok c.prepare.result _ _ c.prepare.ensures.commit (λ p by. prepared_is c.deref.result.now c.args.writes.now c.args.blocks.now _ p copied c.requires.blocks c.in_ok-plan.ensures by)

pub returns-clause-whole : goal.returns-clause-whole
returns-clause-whole g c = on_ok c.prepare.result _ (whole_writes c.in_ok-copies.copies.items c.args.writes.now c.in_ok-copies.ensures.is c.in_ok-copies.ensures.whole)
