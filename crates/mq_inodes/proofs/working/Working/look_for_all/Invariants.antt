use Rattle.mq_inodes.specs.Pages.{pages_of}
use Rattle.mq_inodes.proofs.MissingPages.{IsSought}
use Rattle.mq_inodes.proofs.working.Working.look_for_all.Given as goal

abbrev pub invariant-loop-b : goal.invariant-loop-b
invariant-loop-b l = IsSought (pages_of l.self) l.blocks l.absent.items l.b-index
