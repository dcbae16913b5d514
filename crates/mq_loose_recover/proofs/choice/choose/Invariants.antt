use Rattle.std.specs.List.{sum_by}
use Rattle.std.proofs.Common.{◌≡◌, length}
use Rattle.mq_recover.specs.Drives.{states}
use Rattle.mq_loose_recover.proofs.Choosing.{IsLooselyChoosing}
use Rattle.mq_loose_recover.proofs.choice.choose.Given as goal

-- copies and numbers are those of the transactions that stand of what was taken
abbrev pub invariant-loop-block : goal.invariant-loop-block
invariant-loop-block g l = record {
  choosing : IsLooselyChoosing l.fn.geometry (states g.P.Port.state l.ports.queues.items l.ports.root) l.fn.base l.fn.chains.items l.chains.items l.copies.items l.set.items;
  base_is : l.base ≡ l.fn.base;
}

abbrev pub decreases-loop-block : goal.decreases-loop-block
decreases-loop-block g l = sum_by length l.chains.items
