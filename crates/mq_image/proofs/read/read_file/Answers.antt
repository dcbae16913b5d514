use Rattle.std.proofs.lemmas.Result.{err_from_is_err_and}
use Rattle.mq_image.proofs.Faults.{body-refuses, header-refuses, no-refusal, words-refuses}
use Rattle.mq_image.proofs.read.read_file.Goals as goal

pub returns-in_err-header-clause-finds : goal.returns-in_err-header-clause-finds
returns-in_err-header-clause-finds c =
    let p = err_from_is_err_and c.from_residual.result c.from_residual.ensures.1 in
    rw (p.1, p.2) (header-refuses c.args.bytes.now _ c.in_err-header.ensures.refused)

pub returns-in_err-stored-clause-finds : goal.returns-in_err-stored-clause-finds
returns-in_err-stored-clause-finds c =
    let p = err_from_is_err_and c.from_residual-in_err-stored.result c.from_residual-in_err-stored.ensures.1 in
    rw (p.1, p.2) (body-refuses c.args.bytes.now c.in_ok-header.header _ c.in_ok-header.ensures.read c.in_err-stored.ensures.finds)

pub returns-in_err-ports-clause-finds : goal.returns-in_err-ports-clause-finds
returns-in_err-ports-clause-finds c =
    let p = err_from_is_err_and c.from_residual-in_err-ports.result c.from_residual-in_err-ports.ensures.1 in
    rw (p.1, p.2) (words-refuses c.args.bytes.now c.in_ok-header.header _ c.in_ok-header.ensures.read c.in_ok-stored.ensures.finds c.in_err-ports.ensures.finds)

pub returns-clause-finds : goal.returns-clause-finds
returns-clause-finds c =
    let h = c.in_ok-header.ensures.read in
    (h.geometry_is, no-refusal c.args.bytes.now c.in_ok-header.header h c.in_ok-stored.ensures.finds c.in_ok-ports.ensures.finds)
