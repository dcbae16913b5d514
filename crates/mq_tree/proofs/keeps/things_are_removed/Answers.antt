use Rattle.mq_tree.proofs.KeptSteps.{ok-rmdir, ok-unlink}
use Rattle.mq_tree.proofs.keeps.things_are_removed.Goals as goal

pub returns : goal.returns
returns c = record { unlink = ok-unlink; rmdir = ok-rmdir }
