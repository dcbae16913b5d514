use Rattle.std.proofs.Common.{◌≡◌, ℕ, ◌<◌, Some, true}
use Rattle.std.specs.Prelude.{slice_get}
use Rattle.mq_run_laws.specs.Answers.{is_good}
use Rattle.mq_report.specs.declared.line.Told.{Told}
use Rattle.mq_command_run.proofs.playing.settle_all.Given as goal

-- the answers before are good
abbrev pub invariant-loop-told : goal.invariant-loop-told
invariant-loop-told l = (i : ℕ) (d : Told) → i < l.told-index → slice_get l.answers i ≡ Some d → is_good d.answer ≡ true
