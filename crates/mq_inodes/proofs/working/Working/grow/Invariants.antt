use Rattle.std.proofs.Common.{ℕ, drop}
use Rattle.mq_inodes.specs.Edits.{Carries, IsOver}
use Rattle.mq_inodes.specs.Opened.{MayGrow}
use Rattle.mq_inodes.specs.Pages.{pages_of}
use Rattle.mq_inodes.proofs.Growing.{AreReady, IsOnWay}
use Rattle.mq_tree.specs.Volume.{Volume}
use Rattle.mq_inodes.proofs.working.Working.grow.Given as goal

abbrev pub invariant-loop-b : goal.invariant-loop-b
invariant-loop-b l = record {
  over : IsOver l.fn.self l.self;
  ready : AreReady l.fn.self.geometry l.self l.o (drop l.b-index l.picks);
  way : (q : ℕ) (v : Volume) (count : ℕ) → Carries l.fn.self.geometry (pages_of l.fn.self) v → MayGrow l.fn.self.geometry q v l.fn.o l.picks count → IsOnWay l.fn.self.geometry q v count l.fn.o.number l.fn.self l.self l.o (drop l.b-index l.picks);
}
