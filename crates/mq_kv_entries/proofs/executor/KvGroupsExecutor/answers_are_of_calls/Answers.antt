use Rattle.mq_kv_entries.proofs.executor.KvGroupsExecutor.answers_are_of_calls.Goals as goal

pub returns : goal.returns
returns c = λ call replies e is. (is.session, is.call)
