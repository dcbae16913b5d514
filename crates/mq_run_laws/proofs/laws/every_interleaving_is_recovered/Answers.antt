use Rattle.mq_core.proofs.MachineFacts.{run_is_lawful}
use Rattle.mq_ledger.specs.Written.{journal_entries}
use Rattle.mq_run_laws.proofs.Recovering.{throughout}
use Rattle.mq_run_laws.proofs.laws.every_interleaving_is_recovered.Goals as goal

pub returns : goal.returns
returns c = λ s events start allowed. throughout events s (run_is_lawful journal_entries s events start allowed)
