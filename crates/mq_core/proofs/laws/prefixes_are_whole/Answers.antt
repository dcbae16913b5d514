use Rattle.mq_core.proofs.StateSafe.{prefix_is}
use Rattle.mq_core.proofs.laws.prefixes_are_whole.Goals as goal

pub returns : goal.returns
returns c = prefix_is
