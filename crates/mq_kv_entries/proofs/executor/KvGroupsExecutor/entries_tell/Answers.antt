use Rattle.std.proofs.Common.{[], refl}
use Rattle.mq_kv_entries.specs.Entries.{placed_by}
use Rattle.mq_sessions.specs.Drawn.{tx_by}
use Rattle.mq_kv_entries.proofs.executor.KvGroupsExecutor.entries_tell.Goals as goal

pub returns : goal.returns
returns c = λ call made e is. record {
  session = is.session;
  call = is.call;
  of_call = record { session = is.session; call = is.call; durable = is.durable; ops = is.ops; replies_are = is.replies };
  written = is.writes;
  freed = refl;
  tx = λ i. tx_by 0 (is.session i) (placed_by e) (is.writes i) [];
}
