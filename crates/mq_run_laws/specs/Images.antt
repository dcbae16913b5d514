-- What a run of scripts on an image promises.
use Rattle.std.specs.Prelude.{◌≡◌, ◌<◌, ℕ, Bool, false, List, None}
use Rattle.mq_blocks.specs.Geometry.{queues_of}
use Rattle.mq_drive.specs.Steps.{PortFault}
use Rattle.mq_image.specs.Drives.{IsRead}
use Rattle.mq_image.specs.Faults.{HasFault}
use Rattle.mq_image.specs.File.{DriveImage, image_bytes}
use Rattle.mq_run_laws.specs.Runs.{IsRunOf}
use Rattle.mq_run_laws.specs.declared.options.Ending.TheVariants.{Checkpoint}
use Rattle.mq_run_laws.specs.declared.options.RunOptions.{RunOptions}
use Rattle.mq_run_laws.specs.declared.ran.ImageRun.{ImageRun}
use Rattle.mq_image_ops.specs.Views.{view_of}
use Rattle.mq_run_laws.specs.Answers.{AreAnswered, AreCaused}
use Rattle.mq_run_laws.specs.Cuts.{IsClean, IsCut, IsRung, Starts}
use Rattle.mq_run_laws.specs.Histories.{AreOfBytes}
use Rattle.mq_run_laws.specs.Legal.{IsLegal, newest, volume_at}
use Rattle.mq_run_laws.specs.Causes.{AreBacked, IsChargedOnce, IsEndOf, IsStopOf, ports_of}
use Rattle.mq_run_laws.specs.Complete.{HaveWanted, IsComplete}
use Rattle.mq_run_laws.specs.Recovering.{HoldsVolume, LeadsTo}
use Rattle.mq_report.specs.declared.line.Last.TheVariants.{Clean}
use Rattle.mq_script.specs.Scripts.{Script}
use Rattle.mq_tree.specs.Volume.{Volume}

-- Recovery of the old image gives the base and leaves a volume. The lines are a legal list from there on,
-- and the answers are those of its lines. The new image is a cut of this history: it is readable, reaches a
-- number that is not below any that `fsync` has answered, and stands for the volume there. Its file is one
-- of an image, and whatever recovery of what is read of the file leads to has this volume on its home
-- blocks. Each doorbell has gone on by the entries of its queue's commits in a prefix of the lines, which
-- has each that was answered `ok`. Each refusal has its cause in the scripts and the history, and one for a
-- drive's cause comes from what was asked of the drive, and charges a fault of its own. Where a checkpoint is
-- made at the end and no command failed, the run ended clean; and it is complete where no command was to fail
-- and memory ran out for no group. With a cut the last line gives the number of events that happened. If the run was stopped at
-- its end, the transaction or the block that its last line names is of the command that had to fail. If it
-- ended clean, the number in the last line is the last one, and the image is clean.
pub record KeepsPromise (x : DriveImage) (scripts : List Script) (o : RunOptions)
    (r : ImageRun) : Type 0 where
  pub volume : Volume
  pub starts : Starts x.geometry (view_of x) r.base volume
  pub legal : IsLegal x.geometry scripts volume r.base r.entries.items
  pub answered : AreAnswered scripts r.entries.items r.answers.items
  pub reached : ℕ
  pub cut : IsCut x.geometry scripts volume r.base r.entries.items r.answers.items (view_of r.image) reached
  pub file : HasFault (image_bytes r.image) None
  pub recovered : (y z : DriveImage) → IsRead z (image_bytes r.image) → LeadsTo y z
      → HoldsVolume x.geometry y (volume_at x.geometry scripts volume r.entries.items reached)
  pub rung : (q : ℕ) → q < queues_of x.geometry
      → IsRung x.geometry scripts volume r.entries.items r.answers.items q ((view_of x).doorbell q)
      ((view_of r.image).doorbell q)
  pub caused : AreCaused x.geometry scripts volume r.base r.entries.items reached r.answers.items
  pub backed : (run : IsRunOf x scripts o r) → AreBacked x.geometry o r (ports_of run)
  pub charged : (run : IsRunOf x scripts o r) (f : PortFault → Bool) → IsChargedOnce x scripts o r run f
  pub spared : o.fail ≡ None → r.failed ≡ false
  pub ended : o.ending ≡ Checkpoint → r.failed ≡ false → (n : ℕ) × (r.last ≡ Clean n)
  pub last : IsEndOf o.ending r.last
  pub stopped : (run : IsRunOf x scripts o r) → IsStopOf x.geometry o r (ports_of run) reached r.last
  pub clean : (n : ℕ) → r.last ≡ Clean n
      → (n ≡ newest r.base r.entries.items) × IsClean x.geometry (view_of r.image) n
  pub complete : o.ending ≡ Checkpoint → o.fail ≡ None → (HaveWanted r.answers.items → ⊥)
      → IsComplete x scripts volume r

-- so it is of every run whose scripts write bytes
abbrev pub RunsKeepTheirPromise : Type 0
RunsKeepTheirPromise =
    (x : DriveImage) (scripts : List Script) (o : RunOptions) (r : ImageRun)
    → IsRunOf x scripts o r
    → AreOfBytes scripts
    → KeepsPromise x scripts o r
