use Rattle.mq_inodes.proofs.PagesLifting.{laid-agrees}
use Rattle.mq_exec.proofs.laws.pages_of_a_map.Goals as goal

pub returns : goal.returns
returns c g map pages v laid same = laid-agrees g map pages v laid same
