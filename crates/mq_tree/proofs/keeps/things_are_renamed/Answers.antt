use Rattle.mq_tree.proofs.KeptSteps.{ok-rename}
use Rattle.mq_tree.proofs.keeps.things_are_renamed.Goals as goal

pub returns : goal.returns
returns c = record { rename = ok-rename }
