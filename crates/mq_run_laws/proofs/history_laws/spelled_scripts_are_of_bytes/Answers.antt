use Rattle.mq_run_laws.proofs.LawsSpelled.{spelled-bytes}
use Rattle.mq_run_laws.proofs.history_laws.spelled_scripts_are_of_bytes.Goals as goal

pub returns : goal.returns
returns c = spelled-bytes
