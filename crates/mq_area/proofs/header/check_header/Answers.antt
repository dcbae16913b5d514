use Rattle.std.proofs.lemmas.Result.{err_from_is_err_and}
use Rattle.mq_area.proofs.ReadingDescriptors.{place-refused}
use Rattle.mq_area.proofs.header.check_header.Goals as goal

pub returns-in_err-check_expected : goal.returns-in_err-check_expected
returns-in_err-check_expected g =
    let p = err_from_is_err_and g.from_residual.result g.from_residual.ensures.1 in
    rw (p.1, p.2) (place-refused _ _ _ _ _ _ g.in_err-check_expected.ensures)
