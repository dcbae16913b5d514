use Rattle.std.proofs.Common.{◌≡◌, length}
use Rattle.mq_loose_text.specs.Meaning.{drawn_by}
use Rattle.mq_loose_run.proofs.run.commits_in.Given as goal

-- those of the lines so far
abbrev pub invariant-loop-line : goal.invariant-loop-line
invariant-loop-line l = l.count ≡ length (drawn_by l.text l.line-index)
