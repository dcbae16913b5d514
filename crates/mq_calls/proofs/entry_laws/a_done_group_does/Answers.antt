use Rattle.mq_calls.proofs.Entries.{does}
use Rattle.mq_calls.proofs.entry_laws.a_done_group_does.Goals as goal

pub returns : goal.returns
returns c = does
