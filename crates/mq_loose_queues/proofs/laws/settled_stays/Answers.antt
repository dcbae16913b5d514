use Rattle.mq_loose_queues.proofs.StaySettled.{still_settled}
use Rattle.mq_loose_queues.proofs.laws.settled_stays.Goals as goal

pub returns : goal.returns
returns c = λ s h v later w n j jw grows heads st. still_settled s h v later w n jw grows heads st
