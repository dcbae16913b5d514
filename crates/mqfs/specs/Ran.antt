-- What `mqfs run` comes to where the scripts were run.
use Rattle.std.specs.Prelude.{◌≡◌, ℕ, List}
use Rattle.mq_command_run.specs.RunsScripts.{AreLoaded, IsReportOf, run_status, run_text}
use Rattle.mq_command_io.specs.Ending.{IsLoaded, IsSaved}
use Rattle.mq_image.specs.Drives.{IsRead}
use Rattle.mq_image.specs.File.{DriveImage, image_bytes}
use Rattle.mq_run_laws.specs.Runs.{IsRunOf}
use Rattle.mq_run_laws.specs.declared.ran.ImageRun.{ImageRun}
use Rattle.mq_outside.specs.Outside.{FilesState, SinkState, appended}
use Rattle.mq_run_laws.specs.Complete.{IsComplete}
use Rattle.mq_run_laws.specs.Images.{KeepsPromise}
use Rattle.mq_script.specs.Scripts.{Script}
use Rattle.mq_cli.specs.declared.command.RunFlags.{RunFlags}
use Rattle.mqfs.specs.Says.{run_options}

-- The name of the image held a file that is read as an image, and the other names held scripts. A run of
-- these scripts on this image was made, and keeps its promise. The name holds the file of the image that it
-- left now, and its report was said, of which there is one reading. The status is 5 where the command that
-- was to fail was executed.
pub record IsRan (image : List ℕ) (names : List (List ℕ)) (options : RunFlags) (result : ℕ)
    (files new_files : FilesState) (old new : SinkState) : Type 0 where
  pub bytes : List ℕ
  pub x : DriveImage
  pub scripts : List Script
  pub r : ImageRun
  pub mid : FilesState
  pub all : FilesState
  pub loaded : IsLoaded image bytes files mid
  pub read : IsRead x bytes
  pub scripts_are : AreLoaded names scripts mid all
  pub run : IsRunOf x scripts (run_options options) r
  pub promise : KeepsPromise x scripts (run_options options) r
  pub saved : IsSaved image (image_bytes r.image) all new_files
  pub report : IsReportOf r (run_text r)
  pub said : new.contents ≡ appended old.contents (run_text r)
  pub status : result ≡ run_status r

-- The status is 0, the scripts were run so, and the run is complete: each group was answered by `ok`, `large`
-- or `changes`, each that ends with `fsync` and writes no more than a transaction may was acknowledged, and the
-- image is clean.
pub record IsRanWhole (image : List ℕ) (names : List (List ℕ)) (options : RunFlags)
    (files new_files : FilesState) (old new : SinkState) : Type 0 where
  pub ran : IsRan image names options 0 files new_files old new
  pub complete : IsComplete ran.x ran.scripts ran.promise.volume ran.r
