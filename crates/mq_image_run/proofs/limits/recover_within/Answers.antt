use Rattle.std.proofs.lemmas.Result.{err_from_is_err_and}
use Rattle.mq_image_run.proofs.Refusals.{unfit-image, unfit-limit}
use Rattle.mq_image_run.proofs.limits.recover_within.Goals as goal

pub returns-in_err-recovered-clause-refused : goal.returns-in_err-recovered-clause-refused
returns-in_err-recovered-clause-refused c =
    let p = err_from_is_err_and c.from_residual.result c.from_residual.ensures.1 in
    rw (p.1, p.2) (unfit-image c.args.image c.in_err-recovered.field-0.0 c.in_err-recovered.ensures.refused)

pub returns-in-Some-clause-refused : goal.returns-in-Some-clause-refused
returns-in-Some-clause-refused c = unfit-limit c.args.image c.in_ok-recovered.recovered c.in_ok-recovered.ensures.ok c.in-Some.base c.in-Some.ensures
