use Rattle.mq_tree.proofs.KeptSteps.{ok-create, ok-mkdir}
use Rattle.mq_tree.proofs.keeps.new_things_are_added.Goals as goal

pub returns : goal.returns
returns c = record { mkdir = ok-mkdir; create = ok-create }
