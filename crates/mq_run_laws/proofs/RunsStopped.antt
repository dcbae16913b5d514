-- With the power on, the drive did not refuse the checkpoint at the end of a run.
use Rattle.std.proofs.Common.{◌≡◌, ◌∙◌, Bool, false, List, Some, None}
use Rattle.std.specs.Prelude.{Err}
use Rattle.mq_drive.specs.Emu.{emu_faults, emu_state}
use Rattle.mq_image.specs.File.{DriveImage}
use Rattle.mq_image_run.specs.Drives.{IsDriven, emu_ghosts}
use Rattle.mq_image_run.specs.Runs.{IsPlayedOn}
use Rattle.mq_image_run.specs.declared.options.DriveOptions.{DriveOptions}
use Rattle.mq_image_run.specs.declared.ran.PlayedImage.{PlayedImage}
use Rattle.mq_image_run.proofs.Powered.{none-off, none-refused}
use Rattle.mq_journal.specs.declared.refusal.CheckpointRefusal.TheVariants as checkpoint
use Rattle.mq_queue_side.specs.declared.answers.Cause.{Cause}
use Rattle.mq_queue_side.specs.declared.answers.Cause.TheVariants as cause
use Rattle.mq_run.specs.Laws.{StopsAreBacked}
use Rattle.mq_run_laws.specs.Played.{PlaysScripts, with_told}
use Rattle.mq_run_laws.specs.Runs.{StoppedByPower}
use Rattle.mq_run_laws.specs.declared.playing.Played.{Played}
use Rattle.mq_script.specs.Scripts.{Script}

module _ (x : DriveImage) (scripts : List Script) (finish : Bool) (o : DriveOptions) (r : PlayedImage Played) (on : IsPlayedOn (PlaysScripts x.geometry scripts finish) x o r) (none : o.limit ≡ None) (backed : StopsAreBacked emu_ghosts emu_state emu_faults) where
  abbrev drives : IsDriven (PlaysScripts x.geometry scripts finish) on.fuse on.recovered.image o r.played r.failed r.image.ports on.stops.seats
  drives = on.stops.drives

  unlimited : on.fuse.limit ≡ None
  unlimited = on.power ∙ none

  -- not for the power
  pub not-stopped : StoppedByPower r.played.finished → ⊥
  not-stopped stopped =
      let plays = drives.plays in
      let behind = backed x.geometry drives.ports plays.standing scripts finish (with_told plays.rest drives.end r.played) cause.Off plays.ran stopped in
      none-off (PlaysScripts x.geometry scripts finish) on.fuse on.recovered.image on.recovery.drive o r.played r.failed r.image.ports on.stops.seats drives unlimited x.geometry behind.port behind.behind

  -- and where the failing command was not executed, not at all
  pub not-refused : r.failed ≡ false → (c : Cause) → r.played.finished ≡ Some (Err (checkpoint.Drive c)) → ⊥
  not-refused fine c stopped =
      let plays = drives.plays in
      let behind = backed x.geometry drives.ports plays.standing scripts finish (with_told plays.rest drives.end r.played) c plays.ran stopped in
      none-refused (PlaysScripts x.geometry scripts finish) on.fuse on.recovered.image on.recovery.drive o r.played r.failed r.image.ports on.stops.seats drives unlimited x.geometry fine c behind.port behind.behind
