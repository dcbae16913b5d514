use Rattle.std.proofs.Common.{◌≡◌, ◌*◌, drop}
use Rattle.mq_inodes.specs.Dirs.{slots_at}
use Rattle.mq_inodes.specs.Pages.{pages_of}
use Rattle.mq_tree.specs.Requests.{unused}
use Rattle.mq_inodes.proofs.working.Working.unused.Given as goal

abbrev pub invariant-loop-b : goal.invariant-loop-b
invariant-loop-b l = (unused l.first (slots_at (pages_of l.self) (drop l.b-index l.blocks)) ≡ unused 0 (slots_at (pages_of l.self) l.blocks)) × (l.first ≡ 15 * l.b-index)
