-- What a run makes of an image.
use Rattle.std.specs.Prelude.{◌≡◌, ℕ, false, List, Option, None, Some, Result, Ok, Err}
use Rattle.std.specs.List.{All}
use Rattle.mq_journal.specs.declared.refusal.CheckpointRefusal.{CheckpointRefusal}
use Rattle.mq_journal.specs.declared.refusal.CheckpointRefusal.TheVariants as checkpoint
use Rattle.mq_image.specs.File.{DriveImage}
use Rattle.mq_report.specs.declared.line.Last.{Last}
use Rattle.mq_report.specs.declared.line.Last.TheVariants.{Clean, Cut, StoppedBlock, StoppedTx}
use Rattle.mq_run.specs.Playing.{IsShort}
use Rattle.mq_script.specs.Scripts.{Script}
use Rattle.mq_queue_side.specs.declared.answers.Cause.{Cause}
use Rattle.mq_queue_side.specs.declared.answers.Cause.TheVariants as cause
use Rattle.mq_image_run.specs.Runs.{IsPlayedOn}
use Rattle.mq_image_run.specs.declared.ran.PlayedImage.{PlayedImage}
use Rattle.mq_run_laws.specs.Endings.{drive_options, finishes}
use Rattle.mq_run_laws.specs.Played.{PlaysScripts}
use Rattle.mq_run_laws.specs.declared.playing.Played.{Played}
use Rattle.mq_run_laws.specs.declared.options.Ending.{Ending}
use Rattle.mq_run_laws.specs.declared.options.Ending.TheVariants as ending
use Rattle.mq_run_laws.specs.declared.options.RunOptions.{RunOptions}
use Rattle.mq_run_laws.specs.declared.ran.ImageRun.{ImageRun}

-- ---- how a run ends

abbrev pub IsPowerOff : Cause → Type 0
IsPowerOff why = why ≡ cause.Off

-- the checkpoint at the end was refused since the power went off
abbrev pub StoppedByPower : Option (Result ℕ CheckpointRefusal) → Type 0
StoppedByPower finished = finished ≡ Some (Err (checkpoint.Drive cause.Off))

-- What is reported of a checkpoint at the end that the drive refused: its power was on.
abbrev pub IsStop : Cause → Last → Type 0
IsStop cause.Off last = ⊥
IsStop (cause.Failed tx status) last = last ≡ StoppedTx tx
IsStop (cause.FailedHome block status) last = last ≡ StoppedBlock block
IsStop (cause.Stopped tx why) last = last ≡ StoppedTx tx

-- With a checkpoint at the end the last line reports what that came to: the number up to which all stands at
-- home, or what stopped it. Else it gives how many events were counted.
abbrev pub IsLast : Ending → (events : ℕ) → Option (Result ℕ CheckpointRefusal) → Last → Type 0
IsLast (ending.Cut k) events finished last = last ≡ Cut events
IsLast ending.Sessions events finished last = last ≡ Cut events
IsLast ending.Checkpoint events (Some (Ok n)) last = last ≡ Clean n
IsLast ending.Checkpoint events (Some (Err (checkpoint.Drive why))) last = IsStop why last
IsLast ending.Checkpoint events (Some (Err checkpoint.OutOfMemory)) last = ⊥
IsLast ending.Checkpoint events None last = ⊥

-- ---- the whole

-- what was played on the image, with the number of events that were counted
abbrev pub left_of : ImageRun → Played → (events : ℕ) → PlayedImage Played
left_of r played events =
    record { image = r.image; base = r.base; played = played; failed = r.failed; events = events }

-- Groups and requests of the scripts can be counted in 32 bits. The scripts were run on the drive that started from
-- the image, and the image is what was left. With a checkpoint at the end, and where the failing command was not
-- executed, the run ended clean.
pub record IsRunOf (x : DriveImage) (scripts : List Script) (o : RunOptions) (r : ImageRun) : Type 0 where
  pub short : All (λ script. IsShort script.groups) scripts
  pub played : Played
  pub events : ℕ
  pub on : IsPlayedOn (PlaysScripts x.geometry scripts (finishes o.ending)) x (drive_options o) (left_of r played events)
  pub entries : r.entries ≡ played.entries
  pub answers : r.answers ≡ played.answers
  pub last : IsLast o.ending events played.finished r.last
  pub ended : o.ending ≡ ending.Checkpoint → r.failed ≡ false → (n : ℕ) × (r.last ≡ Clean n)
