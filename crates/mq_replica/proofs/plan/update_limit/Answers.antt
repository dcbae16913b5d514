use Rattle.std.proofs.Common.{arith}
use Rattle.mq_blocks.proofs.DescriptorLimits.{limit-low}
use Rattle.mq_replica.proofs.plan.update_limit.Goals as goal

pub overflow_sub-result : goal.overflow_sub-result
overflow_sub-result c = let low = limit-low c.args.geometry in let is = c.write_limit.ensures in omega (arith, low, is)
