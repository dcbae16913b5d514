use Rattle.std.proofs.Common.{ap}
use Rattle.mq_watch.proofs.FlakyAnswers.{cause_under}
use Rattle.mq_watch.proofs.flaky.FlakyPortPort.store_base.Goals as goal

pub returns-clause-cause : goal.returns-clause-cause
returns-clause-cause g c =
    let same = c.is_refused.ensures.no c.if-is_refused.false in
    cause_under c.store_base.result _ _ _ _ _ same (ap g.P.Port.faults c.is_refused.ensures.port) c.store_base.ensures.cause
