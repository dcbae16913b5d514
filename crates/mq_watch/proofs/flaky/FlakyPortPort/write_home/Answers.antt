use Rattle.std.proofs.Common.{ap}
use Rattle.mq_watch.proofs.FlakyAnswers.{home_under}
use Rattle.mq_watch.proofs.flaky.FlakyPortPort.write_home.Goals as goal

pub returns-clause-gives : goal.returns-clause-gives
returns-clause-gives g c =
    let same = c.is_refused.ensures.no c.if-is_refused.false in
    home_under _ _ _ _ _ c.write_home.result _ _ _ _ _ same (ap g.P.Port.state c.is_refused.ensures.port) (ap g.P.Port.faults c.is_refused.ensures.port) c.write_home.ensures
