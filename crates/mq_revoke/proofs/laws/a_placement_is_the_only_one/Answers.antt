use Rattle.mq_revoke.proofs.Placed.{placement-unique}
use Rattle.mq_revoke.proofs.laws.a_placement_is_the_only_one.Goals as goal

pub returns : goal.returns
returns c = placement-unique
