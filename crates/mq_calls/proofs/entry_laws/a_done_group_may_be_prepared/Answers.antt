use Rattle.mq_calls.proofs.Entries.{done_planned, done_rises}
use Rattle.mq_calls.proofs.entry_laws.a_done_group_may_be_prepared.Goals as goal

pub returns : goal.returns
returns c = record { order = done_rises; plan = done_planned }
