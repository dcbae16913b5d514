use Rattle.mq_exec.proofs.MovesLocal.{moves-once}
use Rattle.mq_exec.proofs.laws.a_change_is_determined.Goals as goal

pub returns : goal.returns
returns c g v w writes others frees rest m o = moves-once g v w writes others frees rest m o
