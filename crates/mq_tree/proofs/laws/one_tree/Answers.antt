use Rattle.mq_tree.proofs.LaidUnique.{laid-once, volume-once}
use Rattle.mq_tree.proofs.laws.one_tree.Goals as goal

pub returns : goal.returns
returns c = record { volume = volume-once; tree = laid-once }
