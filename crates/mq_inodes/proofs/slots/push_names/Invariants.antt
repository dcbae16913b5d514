use Rattle.std.proofs.Common.{◌≡◌, ◌++◌, drop}
use Rattle.mq_inodes.specs.Dirs.{names_of, slots_in}
use Rattle.mq_inodes.proofs.slots.push_names.Given as goal

abbrev pub invariant-loop-at : goal.invariant-loop-at
invariant-loop-at l = l.names.items ++ names_of (drop l.at (slots_in l.block)) ≡ l.fn.names.items ++ names_of (slots_in l.block)
