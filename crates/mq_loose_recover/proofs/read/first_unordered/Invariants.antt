use Rattle.std.proofs.Common.{◌≡◌, take}
use Rattle.mq_blocks.specs.Descriptor.{AreRising}
use Rattle.mq_area.proofs.DescriptorRising.{next_above}
use Rattle.mq_loose_recover.proofs.read.first_unordered.Given as goal

abbrev pub invariant-loop-i : goal.invariant-loop-i
invariant-loop-i l = (l.low ≡ next_above 1 (take l.i l.numbers)) × AreRising 1 l.limit (take l.i l.numbers)
