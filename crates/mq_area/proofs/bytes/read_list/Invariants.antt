use Rattle.std.proofs.Common.{◌≡◌, ◌+◌, ◌*◌, ◌++◌, drop}
use Rattle.mq_blocks.specs.Windows.{numbers}
use Rattle.mq_area.proofs.bytes.read_list.Given as goal

abbrev pub invariant-loop-i : goal.invariant-loop-i
invariant-loop-i l = l.list.items ≡ numbers l.i (drop (56 + 4 * l.first) (l.block ++ l.before))
