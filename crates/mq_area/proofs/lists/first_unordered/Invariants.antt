use Rattle.std.proofs.Common.{◌≡◌, take}
use Rattle.mq_blocks.specs.Descriptor.{AreRising}
use Rattle.mq_area.proofs.DescriptorRising.{next_above}
use Rattle.mq_area.proofs.lists.first_unordered.Given as goal

abbrev pub invariant-loop-i : goal.invariant-loop-i
invariant-loop-i l = (l.low ≡ next_above 0 (take l.i l.list)) × AreRising 0 l.homes (take l.i l.list)
