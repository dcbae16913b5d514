use Rattle.std.proofs.Common.{arith}
use Rattle.mq_blocks.proofs.DescriptorLimits.{limit-low}
use Rattle.mq_example_journal.proofs.journal.Journal.commit.Goals as goal

-- two blocks are within the limit of every drive
pub prepare-requires-clause-few : goal.prepare-requires-clause-few
prepare-requires-clause-few g c = let low = limit-low c.args.self.now.side.pmr.geometry in omega arith
