use Rattle.std.proofs.Common.{refl}
use Rattle.mq_calls.proofs.machine.FileGroupsExecutor.transactions_are_of_sessions.Goals as goal

pub returns : goal.returns
returns c = λ e. refl
