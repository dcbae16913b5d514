use Rattle.mq_kv_entries.proofs.Entries.{writes-rise}
use Rattle.mq_kv_entries.proofs.executor.KvGroupsExecutor.done_groups_rise.Goals as goal

pub returns : goal.returns
returns c = λ g q m ops made on. writes-rise g m ops made.done.replies.items made.done.writes.items on.buckets on.is
