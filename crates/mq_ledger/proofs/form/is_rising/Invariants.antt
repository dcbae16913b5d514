use Rattle.std.proofs.Common.{drop, map}
use Rattle.mq_blocks.specs.Descriptor.{AreRising}
use Rattle.mq_ledger.proofs.RecordsLists.{Goes}
use Rattle.mq_ledger.proofs.form.is_rising.Given as goal

-- it holds of all exactly where it holds of the rest
abbrev pub invariant-loop-item : goal.invariant-loop-item
invariant-loop-item g l = Goes (AreRising 0 l.high (map g.T.OfBlock.block_of l.list)) (AreRising l.low l.high (drop l.item-index (map g.T.OfBlock.block_of l.list)))
