use Rattle.std.proofs.lemmas.Result.{err_from_is_err_and}
use Rattle.mq_image.proofs.FaultsGeometries.{geometry_refused}
use Rattle.mq_image.proofs.header.read_geometry.Goals as goal

pub returns-in_err-new-clause-refused : goal.returns-in_err-new-clause-refused
returns-in_err-new-clause-refused c =
    let p = err_from_is_err_and c.from_residual.result c.from_residual.ensures.1 in
    let g = c.new.ensures in
    rw (p.1, p.2) (λ s has. geometry_refused c.args.file.now _ _ _ _ c.new.result _ s c.u32_at-queues.ensures c.u32_at-area.ensures c.u32_at-meta.ensures c.u32_at-zone.ensures c.in_err-new.was g.good g.queues g.area g.homes has)
