use Rattle.std.proofs.Common.{◌≡◌, drop}
use Rattle.mq_inodes.specs.Dirs.{slots_in}
use Rattle.mq_tree.specs.Requests.{unused}
use Rattle.mq_inodes.proofs.slots.unused_in.Given as goal

abbrev pub invariant-loop-at : goal.invariant-loop-at
invariant-loop-at l = unused l.at (drop l.at (slots_in l.block)) ≡ unused 0 (slots_in l.block)
