use Rattle.std.proofs.Common.{◌≡◌, ◌+◌, ◌≤◌, drop}
use Rattle.mq_inodes.specs.Dirs.{slots_in}
use Rattle.mq_tree.specs.Requests.{count_names}
use Rattle.mq_inodes.proofs.slots.count_in.Given as goal

abbrev pub invariant-loop-at : goal.invariant-loop-at
invariant-loop-at l = (l.count + count_names (drop l.at (slots_in l.block)) ≡ count_names (slots_in l.block)) × (l.count ≤ l.at)
