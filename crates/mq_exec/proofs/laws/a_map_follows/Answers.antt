use Rattle.mq_exec.proofs.MovesResting.{laid-after}
use Rattle.mq_exec.proofs.laws.a_map_follows.Goals as goal

pub returns : goal.returns
returns c = laid-after
