-- What the end of a run asks for.
use Rattle.std.specs.Prelude.{ℕ, Bool, true, false, Option, None, Some}
use Rattle.mq_run_laws.specs.declared.options.Ending.{Ending}
use Rattle.mq_run_laws.specs.declared.options.Ending.TheVariants.{Checkpoint, Cut, Sessions}
use Rattle.mq_run_laws.specs.declared.options.RunOptions.{RunOptions}
use Rattle.mq_image_run.specs.declared.options.DriveOptions.{DriveOptions}

-- after how many events the power goes off
abbrev pub limit_of : Ending → Option ℕ
limit_of Checkpoint = None
limit_of (Cut k) = Some k
limit_of Sessions = None

-- a checkpoint is made
abbrev pub finishes : Ending → Bool
finishes Checkpoint = true
finishes (Cut k) = false
finishes Sessions = false

-- what is asked for of the drive
abbrev pub drive_options : RunOptions → DriveOptions
drive_options o = record { limit = limit_of o.ending; pick = o.pick; fail = o.fail }
