use Rattle.mq_queue_side.proofs.Counts.{events_bound}
use Rattle.mq_queue_side.proofs.laws.events_are_bounded.Goals as goal

pub returns : goal.returns
returns c = events_bound
