use Rattle.mq_blocks.specs.Drive.{FuseName}
use Rattle.mq_ledger.specs.State.{State}
use Rattle.mq_loose_run.specs.Lines.{IsRunning}
use Rattle.mq_loose_run.proofs.lines.run_lines.Given as goal

-- the lines so far are run
abbrev pub invariant-loop-line : goal.invariant-loop-line
invariant-loop-line l = (fuse : FuseName) (start : State) → IsRunning fuse start l.text 0 l.fn.running → IsRunning fuse start l.text l.line-index l.running
