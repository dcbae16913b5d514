use Rattle.mq_replica.proofs.NumberedBlocks.{reads_back}
use Rattle.mq_replica.proofs.laws.a_number_is_read_again.Goals as goal

pub returns : goal.returns
returns c = λ n small. reads_back n small
