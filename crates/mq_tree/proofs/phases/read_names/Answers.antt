use Rattle.std.proofs.lemmas.Result.{err_from_is_err_and}
use Rattle.mq_tree.proofs.FirstFindings.{names-alone, names-refuse}
use Rattle.mq_tree.proofs.phases.read_names.Goals as goal

pub returns-in_err-refuse_first-in-Ok-clause-cause :
    goal.returns-in_err-refuse_first-in-Ok-clause-cause
returns-in_err-refuse_first-in-Ok-clause-cause c =
    let p = err_from_is_err_and c.from_residual.result c.from_residual.ensures.1 in
    rw (p.1, p.2) (names-alone c.args.geometry c.args.blocks.now c.bad_name-name.result c.in_err-refuse_first-in-Ok.field-0.0 c.bad_name-name.ensures c.in-Ok.ensures.once c.in_err-refuse_first-in-Ok.ensures.first)

pub returns-in-Err-clause-cause : goal.returns-in-Err-clause-cause
returns-in-Err-clause-cause c =
    names-refuse c.args.geometry c.args.blocks.now c.bad_name-name.result c.in-Err.refusal c.first_name.result c.bad_name-name.ensures c.in-Err.ensures.cause c.first_name.ensures
