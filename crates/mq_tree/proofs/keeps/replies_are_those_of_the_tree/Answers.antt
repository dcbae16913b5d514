use Rattle.mq_tree.proofs.KeptAsks.{listed, read-file, stat-file}
use Rattle.mq_tree.proofs.keeps.replies_are_those_of_the_tree.Goals as goal

pub returns : goal.returns
returns c = record { read = read-file; size = stat-file; listed = listed }
