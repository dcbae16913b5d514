-- How a run ends.
use Rattle.std.proofs.Common.{◌≡◌, ℕ, Option, Some, None, ap, refl}
use Rattle.std.specs.Prelude.{Err, Ok, Result}
use Rattle.mq_journal.specs.declared.refusal.CheckpointRefusal.{CheckpointRefusal}
use Rattle.mq_journal.specs.declared.refusal.CheckpointRefusal.TheVariants as checkpoint
use Rattle.mq_report.specs.declared.line.Last.{Last}
use Rattle.mq_report.specs.declared.line.Last.TheVariants.{Clean}
use Rattle.mq_queue_side.specs.declared.answers.Cause.{Cause}
use Rattle.mq_run_laws.specs.Endings.{limit_of}
use Rattle.mq_run_laws.specs.Runs.{IsLast}
use Rattle.mq_run_laws.specs.declared.options.Ending.{Ending}
use Rattle.mq_run_laws.specs.declared.options.Ending.TheVariants as ending

-- no power goes off before a checkpoint
pub checkpoint-powered : (e : Ending) → e ≡ ending.Checkpoint → limit_of e ≡ None
checkpoint-powered e same = ap limit_of same

-- a checkpoint that was asked for and not refused by the drive ends the run clean
pub clean-last : (events : ℕ) (finished : Option (Result ℕ CheckpointRefusal)) (last : Last) → ((c : Cause) → finished ≡ Some (Err (checkpoint.Drive c)) → ⊥) → IsLast ending.Checkpoint events finished last → (n : ℕ) × (last ≡ Clean n)
clean-last events (Some (Ok n)) last not is = (n, is)
clean-last events (Some (Err (checkpoint.Drive c))) last not is = absurd (not c refl)
clean-last events (Some (Err checkpoint.OutOfMemory)) last not is = absurd is
clean-last events None last not is = absurd is
