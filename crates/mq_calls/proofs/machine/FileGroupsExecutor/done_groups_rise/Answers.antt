use Rattle.mq_calls.proofs.Entries.{done_rises}
use Rattle.mq_calls.proofs.machine.FileGroupsExecutor.done_groups_rise.Goals as goal

pub returns : goal.returns
returns c = λ g queue m requests done on. done_rises g queue m requests done on
