use Rattle.mq_tree.proofs.FaultsExact.{refused-only, room-refused}
use Rattle.mq_tree.proofs.KeptRefusals.{name-refused, tree-refused}
use Rattle.mq_tree.proofs.keeps.refusals_are_those_of_the_tree.Goals as goal

pub returns : goal.returns
returns c = record { names = name-refused; refused = tree-refused; room = room-refused; only = refused-only }
