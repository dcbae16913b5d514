use Rattle.std.proofs.Common.{ap}
use Rattle.mq_watch.proofs.FlakyAnswers.{cause_under}
use Rattle.mq_watch.proofs.flaky.FlakyPortPort.flush.Goals as goal

pub returns-clause-cause : goal.returns-clause-cause
returns-clause-cause g c =
    let same = c.is_refused.ensures.no c.if-is_refused.false in
    cause_under c.flush.result _ _ _ _ _ same (ap g.P.Port.faults c.is_refused.ensures.port) c.flush.ensures.cause
