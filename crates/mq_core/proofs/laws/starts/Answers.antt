use Rattle.mq_core.proofs.Start.{start_is}
use Rattle.mq_core.proofs.laws.starts.Goals as goal

pub returns : goal.returns
returns c = λ g blocks base whole low. start_is g blocks whole base low
