use Rattle.std.proofs.lemmas.Result.{err_from_is_err_and}
use Rattle.mq_image_ops.proofs.ViewsHomeBlocks.{recovered-stand}
use Rattle.mq_image_ops.proofs.homes.read_standing.Goals as goal

pub returns-in_err-recovered-clause-complete : goal.returns-in_err-recovered-clause-complete
returns-in_err-recovered-clause-complete c = λ ds top read.
    let p = err_from_is_err_and c.from_residual.result c.from_residual.ensures.1 in
    rw (p.1, p.2) (c.in_err-recovered.ensures.complete ds top read)

pub returns-clause-ok : goal.returns-clause-ok
returns-clause-ok c = recovered-stand c.args.image c.in_ok-recovered.recovered c.in_ok-take_homes.field-0.items c.in_ok-recovered.ensures.ok c.in_ok-take_homes.ensures
