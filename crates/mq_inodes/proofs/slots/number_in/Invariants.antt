use Rattle.std.proofs.Common.{◌≡◌, drop}
use Rattle.mq_inodes.specs.Dirs.{slots_in}
use Rattle.mq_tree.specs.Volume.{slot_number}
use Rattle.mq_inodes.proofs.slots.number_in.Given as goal

abbrev pub invariant-loop-at : goal.invariant-loop-at
invariant-loop-at l = slot_number l.at l.name (drop l.at (slots_in l.block)) ≡ slot_number 0 l.name (slots_in l.block)
