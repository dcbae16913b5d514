use Rattle.mq_calls.proofs.machine.FileGroupsExecutor.entries_are_of_calls.Goals as goal

pub returns : goal.returns
returns c = λ call done e is. (is.is.session_is, is.call)
