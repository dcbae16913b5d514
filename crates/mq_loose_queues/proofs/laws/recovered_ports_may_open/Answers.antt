use Rattle.mq_loose_queues.proofs.Recovered.{recovered_opens}
use Rattle.mq_loose_queues.proofs.laws.recovered_ports_may_open.Goals as goal

pub returns : goal.returns
returns c = λ g old new standing r low rung. recovered_opens g old new standing r low rung
