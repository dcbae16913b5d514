use Rattle.std.specs.List.{sum_by}
use Rattle.std.proofs.Common.{◌≡◌, length}
use Rattle.mq_blocks.specs.Geometry.{homes_of}
use Rattle.mq_recover.proofs.Choices.{IsChoosing}
use Rattle.mq_recover.proofs.choice.choose.Given as goal

-- the copies are those of the transactions that were taken
abbrev pub invariant-loop-copies : goal.invariant-loop-copies
invariant-loop-copies l = record {
  choosing : IsChoosing (homes_of l.fn.geometry) l.fn.base l.fn.chains.items l.chains.items l.copies.items l.prefix;
  base_is : l.base ≡ l.fn.base;
}

abbrev pub decreases-loop-copies : goal.decreases-loop-copies
decreases-loop-copies l = sum_by length l.chains.items
