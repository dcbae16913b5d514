use Rattle.mq_queue_side.proofs.Stored.{stored_more}
use Rattle.mq_queue_side.proofs.laws.a_number_is_stored.Goals as goal

pub returns : goal.returns
returns g c = stored_more
