use Rattle.mq_loose_order.proofs.Standing.{found_stand}
use Rattle.mq_loose_order.proofs.laws.what_stands_is_found_upward.Goals as goal

pub returns : goal.returns
returns c = found_stand
