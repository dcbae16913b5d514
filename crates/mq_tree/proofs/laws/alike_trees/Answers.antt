use Rattle.mq_tree.proofs.VolumeAlike.{alike-reads, alike-text}
use Rattle.mq_tree.proofs.CountsSums.{alike-counts}
use Rattle.mq_tree.proofs.TreesKeeping.{same-tree}
use Rattle.mq_tree.proofs.laws.alike_trees.Goals as goal

pub returns : goal.returns
returns c = record { tree = same-tree; text = alike-text; counts = alike-counts; reads = alike-reads }
