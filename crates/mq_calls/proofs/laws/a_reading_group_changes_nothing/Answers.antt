use Rattle.mq_calls.proofs.RequestsUnchanged.{nothing-changes}
use Rattle.mq_calls.proofs.laws.a_reading_group_changes_nothing.Goals as goal

pub returns : goal.returns
returns c = λ g session m requests done reads on. nothing-changes g session on.volume requests done reads on.is
