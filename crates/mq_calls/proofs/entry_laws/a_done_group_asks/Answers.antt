use Rattle.mq_calls.proofs.Entries.{asks}
use Rattle.mq_calls.proofs.entry_laws.a_done_group_asks.Goals as goal

pub returns : goal.returns
returns c = asks
