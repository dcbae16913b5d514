-- What the end of a run asks for.
use Rattle.std.specs.Prelude.{ℕ, Bool, true, false, Option, None, Some}
use Rattle.mq_image_run.specs.declared.options.DriveOptions.{DriveOptions}
use Rattle.mq_kv_run.specs.declared.options.KvOptions.{KvOptions}

-- a checkpoint is made at the end where no cut is asked for
abbrev pub finishes : Option ℕ → Bool
finishes None = true
finishes (Some k) = false

-- what is asked for of the drive: no command of it has to fail
abbrev pub drive_options : KvOptions → DriveOptions
drive_options o = record { limit = o.cut; pick = o.pick; fail = None }
