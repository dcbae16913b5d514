use Rattle.mq_calls.proofs.machine.FileGroupsExecutor.answers_are_of_calls.Goals as goal

pub returns : goal.returns
returns c = λ call replies e is. (is.session, is.call)
