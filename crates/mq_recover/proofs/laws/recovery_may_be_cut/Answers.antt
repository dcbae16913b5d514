use Rattle.mq_recover.proofs.StepsRecoveries.{again-same}
use Rattle.mq_recover.proofs.laws.recovery_may_be_cut.Goals as goal

pub returns : goal.returns
returns c = again-same
