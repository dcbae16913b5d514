use Rattle.std.proofs.Common.{◌≡◌, ◌++◌, drop}
use Rattle.mq_inodes.specs.Dirs.{names_of, slots_at}
use Rattle.mq_inodes.specs.Pages.{pages_of}
use Rattle.mq_inodes.proofs.working.Working.unsorted.Given as goal

abbrev pub invariant-loop-b : goal.invariant-loop-b
invariant-loop-b l = l.names.items ++ names_of (slots_at (pages_of l.self) (drop l.b-index l.blocks)) ≡ names_of (slots_at (pages_of l.self) l.blocks)
