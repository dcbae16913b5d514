use Rattle.mq_sessions.proofs.Members.{none-contained}
use Rattle.mq_kv_entries.proofs.executor.KvGroupsExecutor.done_groups_are_on_maps.Goals as goal

pub returns : goal.returns
returns c = λ g q cells m ops made good agrees on. (
  record { written = on.0; freed = λ b there. none-contained b there },
  record { buckets = good; is = on.1 m good agrees },
)
