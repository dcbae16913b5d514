use Rattle.mq_tree.proofs.KeptSteps.{change-answers, reading-same, refused-same}
use Rattle.mq_tree.proofs.keeps.refusals_change_nothing.Goals as goal

pub returns : goal.returns
returns c = record { refused = refused-same; reads = reading-same; answers = change-answers }
