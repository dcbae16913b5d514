use Rattle.mq_exec.proofs.MovesLocal.{differs-moves}
use Rattle.mq_exec.proofs.laws.a_difference_is_the_change.Goals as goal

pub returns : goal.returns
returns c g view changed v w writes frees t d kinds = differs-moves g view changed v w writes frees t d kinds
