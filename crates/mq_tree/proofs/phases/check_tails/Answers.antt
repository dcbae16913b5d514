use Rattle.mq_tree.proofs.FirstFindings.{tail-refuses}
use Rattle.mq_tree.proofs.phases.check_tails.Goals as goal

pub returns-in-Some-clause-cause : goal.returns-in-Some-clause-cause
returns-in-Some-clause-cause c = tail-refuses c.args.geometry c.args.blocks.now c.in-Some.b c.corrupt.result c.in-Some.ensures c.corrupt.ensures
