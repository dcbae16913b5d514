use Rattle.mq_tree.proofs.KeptBytes.{cut-is, spliced-is}
use Rattle.mq_tree.proofs.KeptSteps.{ok-truncate, ok-write}
use Rattle.mq_tree.proofs.keeps.files_are_rewritten.Goals as goal

pub returns : goal.returns
returns c = record { write = ok-write; truncate = ok-truncate; spliced = spliced-is; cut = cut-is }
