use Rattle.mq_run_laws.proofs.LegalFacts.{count-once, few-entries}
use Rattle.mq_run_laws.proofs.LegalMoving.{sound-writes, writes-few}
use Rattle.mq_run_laws.proofs.history_laws.a_change_has_a_count.Goals as goal

pub returns : goal.returns
returns c = record { some = sound-writes; one = count-once; few = writes-few; entries = few-entries }
