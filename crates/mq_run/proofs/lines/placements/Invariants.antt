use Rattle.std.proofs.Common.{◌≡◌, map, take}
use Rattle.mq_tie.specs.Runs.{history_of}
use Rattle.mq_run.proofs.lines.placements.Given as goal

abbrev pub invariant-loop-at : goal.invariant-loop-at
invariant-loop-at g l = l.all.items ≡ map (λ h. h.1.placed) (take l.at (history_of l.ended))
