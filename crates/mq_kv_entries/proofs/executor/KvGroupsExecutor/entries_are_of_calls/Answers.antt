use Rattle.mq_kv_entries.proofs.executor.KvGroupsExecutor.entries_are_of_calls.Goals as goal

pub returns : goal.returns
returns c = λ call made e is. (is.session, is.call)
