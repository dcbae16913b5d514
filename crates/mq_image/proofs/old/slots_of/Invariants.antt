use Rattle.std.proofs.Common.{◌≡◌}
use Rattle.mq_image.specs.Old.{moved_slots}
use Rattle.mq_image.proofs.old.slots_of.Given as goal

abbrev pub invariant-loop-slot : goal.invariant-loop-slot
invariant-loop-slot l = l.slots.items ≡ moved_slots l.port.head l.port.doorbell l.port.slots l.slot
