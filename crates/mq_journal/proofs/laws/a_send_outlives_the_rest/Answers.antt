use Rattle.mq_journal.proofs.LawsKeeping.{sends_outlive_rest}
use Rattle.mq_journal.proofs.laws.a_send_outlives_the_rest.Goals as goal

pub returns : goal.returns
returns g c = sends_outlive_rest g.P.Port.state g.P.Port.faults g.G.Groups.group c.args.side.now
