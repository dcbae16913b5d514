use Rattle.std.proofs.Common.{◌≡◌, ◌*◌, drop}
use Rattle.mq_inodes.specs.Dirs.{slots_at}
use Rattle.mq_inodes.specs.Pages.{pages_of}
use Rattle.mq_tree.specs.Volume.{slot_number}
use Rattle.mq_inodes.proofs.working.Working.slot_of.Given as goal

abbrev pub invariant-loop-b : goal.invariant-loop-b
invariant-loop-b l = (slot_number l.first l.name (slots_at (pages_of l.self) (drop l.b-index l.blocks)) ≡ slot_number 0 l.name (slots_at (pages_of l.self) l.blocks)) × (l.first ≡ 15 * l.b-index)
