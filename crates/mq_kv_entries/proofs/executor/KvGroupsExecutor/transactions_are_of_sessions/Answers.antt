use Rattle.std.proofs.Common.{refl}
use Rattle.mq_kv_entries.proofs.executor.KvGroupsExecutor.transactions_are_of_sessions.Goals as goal

pub returns : goal.returns
returns c = λ e. refl
