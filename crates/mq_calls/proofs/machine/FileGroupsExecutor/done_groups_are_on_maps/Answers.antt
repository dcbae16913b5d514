use Rattle.mq_inodes.specs.Pages.{held_pages}
use Rattle.mq_inodes.proofs.PagesLifting.{laid-agrees}
use Rattle.mq_calls.proofs.machine.FileGroupsExecutor.done_groups_are_on_maps.Goals as goal

pub returns : goal.returns
returns c = λ g q cells m requests done good agrees on. (
  record { written = on.0.written; freed = on.0.freed },
  record { volume = good.0; laid = good.1; is = on.1 good.0 (laid-agrees g m (held_pages cells) good.0 good.1 agrees) },
)
