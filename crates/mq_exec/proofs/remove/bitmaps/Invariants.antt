use Rattle.mq_exec.proofs.RemovesFreeing.{AreBitmaps}
use Rattle.mq_exec.proofs.remove.bitmaps.Given as goal

abbrev pub invariant-loop-b : goal.invariant-loop-b
invariant-loop-b l = AreBitmaps l.working.geometry l.blocks l.bitmaps.items l.b-index
