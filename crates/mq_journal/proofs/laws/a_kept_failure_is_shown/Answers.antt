use Rattle.mq_journal.proofs.LawsInHand.{kept_shows}
use Rattle.mq_journal.proofs.laws.a_kept_failure_is_shown.Goals as goal

pub returns : goal.returns
returns g c = kept_shows g.P.Port.state g.P.Port.faults g.G.Groups.group c.args.side.now
