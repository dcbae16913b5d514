-- How the drive of an image ran.
use Rattle.std.specs.Prelude.{◌≡◌, ℕ, Bool, true, false, List, Option, None, Some, Result, Ok, Err}
use Rattle.mq_blocks.specs.Geometry.{meta_of}
use Rattle.mq_journal.specs.declared.refusal.CheckpointRefusal.{CheckpointRefusal}
use Rattle.mq_journal.specs.declared.refusal.CheckpointRefusal.TheVariants as checkpoint
use Rattle.mq_image.specs.File.{DriveImage}
use Rattle.mq_kv_buckets.specs.declared.operation.KvOp.{KvOp}
use Rattle.mq_kv_buckets.specs.Store.{AreBuckets}
use Rattle.mq_image_run.specs.Runs.{IsPlayedOn}
use Rattle.mq_image_run.specs.declared.ran.PlayedImage.{PlayedImage}
use Rattle.mq_kv_run.specs.Drives.{PlaysGroups}
use Rattle.mq_kv_run.specs.Endings.{drive_options, finishes}
use Rattle.mq_kv_run.specs.Limits.{standing_map}
use Rattle.mq_kv_run.specs.declared.driving.Played.{Played}
use Rattle.mq_kv_run.specs.declared.options.KvOptions.{KvOptions}
use Rattle.mq_kv_run.specs.declared.ran.KvRun.{KvRun}
use Rattle.mq_kv_text.specs.declared.report.LastLine.{LastLine}
use Rattle.mq_kv_text.specs.declared.report.LastLine.TheVariants.{Clean, Cut}
use Rattle.mq_queue_side.specs.declared.answers.Cause.{Cause}

-- ---- how a run ends

-- a checkpoint was made where one was asked for
abbrev pub WasAsked : (asked : Bool) → Option (Result ℕ CheckpointRefusal) → Type 0
WasAsked true None = ⊥
WasAsked true (Some answer) = Unit {0}
WasAsked false None = Unit {0}
WasAsked false (Some answer) = ⊥

-- the drive refused the checkpoint at the end
abbrev pub IsStopped : Option (Result ℕ CheckpointRefusal) → Type 0
IsStopped finished = (why : Cause) × (finished ≡ Some (Err (checkpoint.Drive why)))

-- With a cut asked for, the last line gives how many events were counted; else the number up to which all stands
-- at home after the checkpoint at the end.
abbrev pub IsLast : (cut : Option ℕ) → (events : ℕ) → Option (Result ℕ CheckpointRefusal) → LastLine → Type 0
IsLast (Some k) events finished last = last ≡ Cut events
IsLast None events (Some (Ok n)) last = last ≡ Clean n
IsLast None events (Some (Err why)) last = ⊥
IsLast None events None last = ⊥

-- ---- the whole

-- what was played on the image, with the base that the recovery found, whether a command failed, and the number of
-- events that were counted
abbrev pub left_of : KvRun → (base : ℕ) → Played → (failed : Bool) → (events : ℕ) → PlayedImage Played
left_of r base played failed events =
    record { image = r.image; base = base; played = played; failed = failed; events = events }

-- The groups were run on the drive that started from the image, over a store that stands there, and the image is what
-- was left.
pub record IsRunOf (x : DriveImage) (groups : List (List KvOp)) (o : KvOptions) (r : KvRun) : Type 0 where
  pub base : ℕ
  pub played : Played
  pub failed : Bool
  pub events : ℕ
  pub on : IsPlayedOn (PlaysGroups x.geometry groups (finishes o.cut)) x (drive_options o)
      (left_of r base played failed events)
  pub formed : AreBuckets (meta_of x.geometry) (standing_map x on.recovery.ds)
  pub reports : r.report.groups ≡ played.reports.items
  pub last : IsLast o.cut events played.finished r.report.last
