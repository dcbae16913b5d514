use Rattle.mq_loose_recover.proofs.Recoveries.{again-same}
use Rattle.mq_loose_recover.proofs.laws.loose_recovery_may_be_cut.Goals as goal

pub returns : goal.returns
returns c = again-same
