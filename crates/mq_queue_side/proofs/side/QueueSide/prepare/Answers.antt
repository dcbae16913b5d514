use Rattle.std.proofs.Common.{◌≤◌, arith}
use Rattle.mq_blocks.proofs.DescriptorLimits.{limit-high}
use Rattle.mq_queue_side.proofs.side.QueueSide.prepare.Goals as goal

pub prepare_commit-requires-clause-few : goal.prepare_commit-requires-clause-few
prepare_commit-requires-clause-few g c = let most = limit-high c.args.self.now.pmr.geometry in let few = c.requires.few in omega arith
