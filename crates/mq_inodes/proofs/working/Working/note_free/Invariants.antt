use Rattle.mq_inodes.specs.Edits.{IsSameView}
use Rattle.mq_inodes.specs.Pages.{pages_of}
use Rattle.mq_inodes.proofs.PagesNoting.{IsNoting}
use Rattle.mq_inodes.proofs.working.Working.note_free.Given as goal

abbrev pub invariant-loop-b : goal.invariant-loop-b
invariant-loop-b l = record {
  view : IsSameView l.fn.self l.self;
  noted : IsNoting (pages_of l.fn.self) (pages_of l.self) l.blocks l.b-index;
}
