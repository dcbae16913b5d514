use Rattle.std.proofs.Common.{take}
use Rattle.mq_tie.specs.Runs.{history_of}
use Rattle.mq_run.specs.Lines.{AreCommitLines}
use Rattle.mq_run.proofs.lines.commit_lines.Given as goal

abbrev pub invariant-loop-at : goal.invariant-loop-at
invariant-loop-at g l = AreCommitLines (take l.at (history_of l.ended)) l.lines.items
