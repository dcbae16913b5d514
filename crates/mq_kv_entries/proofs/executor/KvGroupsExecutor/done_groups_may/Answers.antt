use Rattle.mq_kv_entries.proofs.Entries.{may}
use Rattle.mq_kv_entries.proofs.executor.KvGroupsExecutor.done_groups_may.Goals as goal

pub returns : goal.returns
returns g c = may g.J.JournalValues.values c.a_plan_meets_the_guard.ensures
