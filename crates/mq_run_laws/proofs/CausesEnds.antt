-- The last line of a run.
use Rattle.std.proofs.Common.{◌≡◌, ◌≤◌, ℕ, Option, Some, None, sym, subst}
use Rattle.std.specs.Prelude.{Result, Ok, Err}
use Rattle.mq_journal.specs.declared.refusal.CheckpointRefusal.{CheckpointRefusal}
use Rattle.mq_journal.specs.declared.refusal.CheckpointRefusal.TheVariants as checkpoint
use Rattle.mq_run_laws.specs.Endings.{limit_of}
use Rattle.mq_run_laws.specs.Runs.{IsLast}
use Rattle.mq_run_laws.specs.declared.options.Ending.{Ending}
use Rattle.mq_run_laws.specs.declared.options.Ending.TheVariants as ending
use Rattle.mq_report.specs.declared.line.Last.{Last}
use Rattle.mq_queue_side.specs.declared.answers.Cause.TheVariants as cause
use Rattle.mq_run_laws.specs.Causes.{IsEndOf}

-- it gives no more events than the cut allows, or reports how the run ended
pub end-of : (e : Ending) (limit : Option ℕ) (events : ℕ) (finished : Option (Result ℕ CheckpointRefusal)) (last : Last) → limit ≡ limit_of e → ((l : ℕ) → limit ≡ Some l → events ≤ l) → IsLast e events finished last → IsEndOf e last
end-of (ending.Cut k) limit events finished last same most is = (events, is, most k same)
end-of ending.Sessions limit events finished last same most is = (events, is)
end-of ending.Checkpoint limit events (Some (Ok n)) last same most is = subst (IsEndOf ending.Checkpoint) (sym is) tt
end-of ending.Checkpoint limit events (Some (Err (checkpoint.Drive cause.Off))) last same most is = absurd is
end-of ending.Checkpoint limit events (Some (Err (checkpoint.Drive (cause.Failed tx status)))) last same most is = subst (IsEndOf ending.Checkpoint) (sym is) tt
end-of ending.Checkpoint limit events (Some (Err (checkpoint.Drive (cause.FailedHome block status)))) last same most is = subst (IsEndOf ending.Checkpoint) (sym is) tt
end-of ending.Checkpoint limit events (Some (Err (checkpoint.Drive (cause.Stopped tx why)))) last same most is = subst (IsEndOf ending.Checkpoint) (sym is) tt
end-of ending.Checkpoint limit events (Some (Err checkpoint.OutOfMemory)) last same most is = absurd is
end-of ending.Checkpoint limit events None last same most is = absurd is
