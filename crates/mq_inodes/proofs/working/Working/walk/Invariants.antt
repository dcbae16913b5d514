use Rattle.std.proofs.Common.{◌≡◌, take}
use Rattle.std.specs.Prelude.{Ok}
use Rattle.mq_inodes.specs.Fits.{Agrees}
use Rattle.mq_inodes.specs.Pages.{pages_of}
use Rattle.mq_tree.specs.Requests.{walk as walk_of}
use Rattle.mq_tree.specs.Volume.{Volume, way}
use Rattle.mq_inodes.proofs.working.Working.walk.Given as goal

abbrev pub invariant-loop-name : goal.invariant-loop-name
invariant-loop-name l = (v : Volume) → Agrees l.self.geometry (pages_of l.self) v → walk_of v (way (take l.name-index l.names)) ≡ Ok l.at
