use Rattle.mq_tree.proofs.KeptSteps.{ok-link}
use Rattle.mq_tree.proofs.keeps.files_are_linked.Goals as goal

pub returns : goal.returns
returns c = record { link = ok-link }
