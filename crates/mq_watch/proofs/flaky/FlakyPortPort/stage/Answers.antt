use Rattle.std.proofs.Common.{ap}
use Rattle.std.proofs.lemmas.Result.{err_from_is_err_and}
use Rattle.mq_watch.proofs.FlakyAnswers.{off_under}
use Rattle.mq_watch.proofs.flaky.FlakyPortPort.stage.Goals as goal

pub returns-in_err-stage-clause-cause : goal.returns-in_err-stage-clause-cause
returns-in_err-stage-clause-cause g c =
    let same = c.is_refused.ensures.no c.if-is_refused.false in
    let p = err_from_is_err_and c.from_residual.result c.from_residual.ensures.1 in
    rw p.1 (off_under _ _ _ _ _ same (ap g.P.Port.faults c.is_refused.ensures.port) c.in_err-stage.ensures.cause)
