use Rattle.mq_tree.proofs.Empty.{empty-laid, empty-others, empty-root_thing}
use Rattle.mq_tree.proofs.laws.empty_tree.Goals as goal

pub returns : goal.returns
returns c = record { laid = empty-laid; root = empty-root_thing; others = empty-others }
