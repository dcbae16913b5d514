use Rattle.std.proofs.Common.{◌≡◌, drop}
use Rattle.mq_inodes.specs.Dirs.{slots_in}
use Rattle.mq_tree.specs.Volume.{find}
use Rattle.mq_inodes.proofs.slots.find_in.Given as goal

abbrev pub invariant-loop-at : goal.invariant-loop-at
invariant-loop-at l = find l.name (drop l.at (slots_in l.block)) ≡ find l.name (slots_in l.block)
