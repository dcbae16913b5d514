use Rattle.mq_queue_side.proofs.SideDraws.{opened}
use Rattle.mq_queue_side.proofs.laws.a_new_side_is_one.Goals as goal

pub returns : goal.returns
returns c = opened
