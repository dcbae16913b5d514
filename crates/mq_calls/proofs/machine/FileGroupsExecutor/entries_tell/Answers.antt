use Rattle.mq_calls.proofs.Acts.{of-call}
use Rattle.mq_calls.specs.Entries.{tx_by}
use Rattle.mq_calls.proofs.machine.FileGroupsExecutor.entries_tell.Goals as goal

pub returns : goal.returns
returns c = λ call done e is. record {
  session = is.is.session_is;
  call = is.call;
  of_call = of-call call done e is;
  written = is.is.writes_are;
  freed = is.is.frees_are;
  tx = λ i. tx_by 0 (is.is.session_is i) e.placed (is.is.writes_are i) (is.is.frees_are i);
}
