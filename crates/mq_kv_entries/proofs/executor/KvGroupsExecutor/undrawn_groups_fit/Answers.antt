use Rattle.mq_kv_entries.proofs.Entries.{fits}
use Rattle.mq_kv_entries.proofs.executor.KvGroupsExecutor.undrawn_groups_fit.Goals as goal

pub returns : goal.returns
returns g c = fits g.J.JournalValues.values
