use Rattle.mq_core.proofs.MachineFacts.{run_is_lawful}
use Rattle.mq_core.proofs.laws.every_run_is_lawful.Goals as goal

pub returns : goal.returns
returns c = run_is_lawful
