use Rattle.std.proofs.Common.{◌≡◌, ◌*◌, drop}
use Rattle.mq_inodes.specs.Dirs.{earlier, slots_at}
use Rattle.mq_inodes.specs.Pages.{pages_of}
use Rattle.mq_tree.specs.Requests.{unused}
use Rattle.mq_tree.specs.Volume.{find as find_name}
use Rattle.mq_inodes.proofs.working.Working.search_names.Given as goal

abbrev pub invariant-loop-b : goal.invariant-loop-b
invariant-loop-b l =
    (find_name l.name (slots_at (pages_of l.self) (drop l.b-index l.blocks)) ≡ find_name l.name (slots_at (pages_of l.self) l.blocks))
    × (earlier l.unused (unused l.first (slots_at (pages_of l.self) (drop l.b-index l.blocks))) ≡ unused 0 (slots_at (pages_of l.self) l.blocks))
    × (l.first ≡ 15 * l.b-index)
