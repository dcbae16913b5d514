use Rattle.std.proofs.Common.{◌≡◌, ◌++◌, map}
use Rattle.mq_run.specs.Lines.{joined}
use Rattle.mq_run.proofs.lines.gather.Given as goal

abbrev pub invariant-loop-list : goal.invariant-loop-list
invariant-loop-list g l = l.all.items ≡ l.initial.all.items ++ joined (map (λ v. v.items) l.yielded)
