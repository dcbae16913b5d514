use Rattle.mq_queue_side.proofs.CommitsPlans.{planned}
use Rattle.mq_queue_side.proofs.laws.a_placement_is_a_plan.Goals as goal

pub returns : goal.returns
returns c = planned
