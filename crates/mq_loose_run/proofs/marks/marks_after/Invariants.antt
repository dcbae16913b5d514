use Rattle.mq_loose_text.specs.Meaning.{drawn_by}
use Rattle.mq_loose_run.specs.Markings.{IsMarking}
use Rattle.mq_loose_run.proofs.marks.marks_after.Given as goal

-- the lines so far are run
abbrev pub invariant-loop-line : goal.invariant-loop-line
invariant-loop-line l = IsMarking l.set (drawn_by l.text l.line-index) l.marking
