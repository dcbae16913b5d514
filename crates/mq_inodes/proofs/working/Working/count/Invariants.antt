use Rattle.std.proofs.Common.{◌≡◌, ◌+◌, ◌*◌, ◌≤◌, drop}
use Rattle.mq_inodes.specs.Dirs.{slots_at}
use Rattle.mq_inodes.specs.Pages.{pages_of}
use Rattle.mq_tree.specs.Requests.{count_names}
use Rattle.mq_inodes.proofs.working.Working.count.Given as goal

abbrev pub invariant-loop-b : goal.invariant-loop-b
invariant-loop-b l = (l.count + count_names (slots_at (pages_of l.self) (drop l.b-index l.blocks)) ≡ count_names (slots_at (pages_of l.self) l.blocks)) × (l.count ≤ 15 * l.b-index)
