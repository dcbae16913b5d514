-- What refusals for a drive's cause say of the options of a run on an image, and of how it ended.
use Rattle.std.specs.Prelude.{◌≡◌, ◌⊎◌, ◌<◌, ◌≤◌, ◌-◌, ◌^◌, ℕ, Bool, true, List, length, Some, Err, slice_get}
use Rattle.std.specs.List.{Contains}
use Rattle.mq_blocks.specs.Geometry.{home_lba, homes_of}
use Rattle.mq_blocks.specs.declared.geometry.Geometry.{Geometry}
use Rattle.mq_queue_side.specs.declared.answers.CallCause.TheVariants.{Drive}
use Rattle.mq_queue_side.specs.declared.answers.Refusal.{Refusal}
use Rattle.mq_drive.specs.Emu.{emu_faults}
use Rattle.mq_drive.specs.Steps.{CommandError, HomeError, PortFault}
use Rattle.mq_drive.specs.declared.emu.EmuPort.{EmuPort}
use Rattle.mq_image.specs.File.{DriveImage}
use Rattle.mq_run_laws.specs.Runs.{IsRunOf}
use Rattle.mq_run_laws.specs.declared.options.Ending.{Ending}
use Rattle.mq_run_laws.specs.declared.options.Ending.TheVariants as ending
use Rattle.mq_run_laws.specs.declared.options.RunOptions.{RunOptions}
use Rattle.mq_run_laws.specs.declared.ran.ImageRun.{ImageRun}
use Rattle.mq_image_ops.specs.Cuts.{row_of}
use Rattle.mq_image_ops.specs.declared.ports.Failing.{Failing}
use Rattle.mq_run_laws.specs.Answers.{IsErrorOf, IsUndone}
use Rattle.mq_run_laws.specs.Histories.{AreOfBytes}
use Rattle.mq_recover.specs.Drives.{faults_on}
use Rattle.mq_report.specs.declared.line.Last.{Last}
use Rattle.mq_report.specs.declared.line.Last.TheVariants.{Clean, Cut, StoppedBlock, StoppedTx}
use Rattle.mq_report.specs.declared.line.Line.{Line}
use Rattle.mq_report.specs.declared.line.Told.{Told}
use Rattle.mq_script.specs.Scripts.{Script}
use Rattle.mq_queue_side.specs.declared.answers.Cause.{Cause}
use Rattle.mq_queue_side.specs.declared.answers.Cause.TheVariants.{Failed, FailedHome, Off, Stopped}
use Rattle.mq_queue_side.specs.declared.answers.Why.TheVariants as why
use Rattle.mq_run_laws.specs.Sums.{IsSum}

-- the group was refused for this cause of a drive
abbrev pub IsRefusedBy : Told → Cause → Type 0
IsRefusedBy t cause = (r : Refusal) × (t.answer ≡ Err r) × (r.cause ≡ Drive cause)

-- ---- the power

-- the power was off, in this call or in the one that stopped the queue
abbrev pub IsOfPower : Cause → Type 0
IsOfPower Off = Unit {0}
IsOfPower (Stopped tx why.Off) = Unit {0}
IsOfPower (Failed tx status) = ⊥
IsOfPower (FailedHome block status) = ⊥
IsOfPower (Stopped tx (why.Status status)) = ⊥

-- the power was to go off after k events, and all of them happened
abbrev pub IsPoweredOff : RunOptions → ImageRun → Type 0
IsPoweredOff o r = (k : ℕ) × (o.ending ≡ ending.Cut k) × (r.last ≡ Cut k)

-- ---- the command that has to fail

-- a command of this transaction had failed, in this call or in the one that stopped the queue
abbrev pub IsOfCommand : Cause → (tx : ℕ) → Type 0
IsOfCommand (Failed tx status) n = tx ≡ n
IsOfCommand (Stopped tx (why.Status status)) n = tx ≡ n
IsOfCommand (Stopped tx why.Off) n = ⊥
IsOfCommand (FailedHome block status) n = ⊥
IsOfCommand Off n = ⊥

-- A command had to fail, and was executed: this is its error, among the faults of the port that was named for
-- it. A port has at most one error.
pub record HasFailed (o : RunOptions) (r : ImageRun) (ports : List EmuPort) (error : PortFault) : Type 0 where
  pub command : Failing
  pub asked : o.fail ≡ Some command
  pub executed : r.failed ≡ true
  pub port : EmuPort
  pub named : slice_get ports command.port ≡ Some port
  pub has : Contains (emu_faults port) error

-- a commit among the lines has this number, and is of the session of this queue
abbrev pub IsQueueCommit : List Line → (n queue : ℕ) → Type 0
IsQueueCommit lines n queue =
    (line : Line) × Contains lines line × (line.commit ≡ true) × (line.number ≡ n)
    × (line.session ≡ queue)

-- The command is of this transaction, which is a commit of the session whose queue has the port.
pub record HasFailedTx (o : RunOptions) (r : ImageRun) (ports : List EmuPort) (tx : ℕ) : Type 0 where
  pub failed : HasFailed o r ports (CommandError tx 640)
  pub commit : IsQueueCommit r.entries.items tx failed.command.port

-- the command is a home write of this block
abbrev pub HasFailedHome : Geometry → RunOptions → ImageRun → List EmuPort → (block : ℕ) → Type 0
HasFailedHome g o r ports block = HasFailed o r ports (HomeError (home_lba g block) 640)

-- ---- what is behind a refusal

-- the ports of the drive at the end of a run, before the cut of their power, by their numbers: the root's last
abbrev pub ports_of : {x : DriveImage} {scripts : List Script} {o : RunOptions} {r : ImageRun}
    → IsRunOf x scripts o r → List EmuPort
ports_of run = row_of run.on.stops.drives.end

-- One of the ports has as many faults as a count of 64 bits can say. It counts none from there on, so it
-- stands behind any refusal.
abbrev pub HaveCountedAll : List EmuPort → Type 0
HaveCountedAll ports = (p : EmuPort) × Contains ports p × (2 ^ 64 - 1 ≤ length (emu_faults p))

-- So nothing more is known of an error. It is so only after the power went off.
pub record IsUntold (o : RunOptions) (r : ImageRun) (ports : List EmuPort) : Type 0 where
  pub power : IsPoweredOff o r
  pub counted : HaveCountedAll ports

-- What stands behind each refusal for a drive's cause: the power went off, or the command that had to fail is
-- of the transaction or the home write of the block that the refusal names. So where no power was to go off
-- and no command was to fail, there is no such refusal. What the refusal says of an error holds of it.
pub record AreBacked (g : Geometry) (o : RunOptions) (r : ImageRun) (ports : List EmuPort) : Type 0 where
  pub power : (t : Told) (cause : Cause) → Contains r.answers.items t → IsRefusedBy t cause
      → IsOfPower cause → IsPoweredOff o r
  pub command : (t : Told) (cause : Cause) (tx : ℕ) → Contains r.answers.items t → IsRefusedBy t cause
      → IsOfCommand cause tx → HasFailedTx o r ports tx
  pub home : (t : Told) (block status : ℕ) → Contains r.answers.items t
      → IsRefusedBy t (FailedHome block status) → HasFailedHome g o r ports block ⊎ IsUntold o r ports
  pub errors : (t : Told) (cause : Cause) → Contains r.answers.items t → IsRefusedBy t cause
      → IsErrorOf g cause ⊎ IsUntold o r ports

abbrev pub RunsAreBacked : Type 0
RunsAreBacked =
    (x : DriveImage) (scripts : List Script) (o : RunOptions) (r : ImageRun)
    → (run : IsRunOf x scripts o r) → AreOfBytes scripts → AreBacked x.geometry o r (ports_of run)

-- The refusals that charge faults of these kinds, that of the checkpoint at the end among them, are together at
-- most as many as those that the ports of the drive have gained since its start.
abbrev pub IsChargedOnce : (x : DriveImage) (scripts : List Script) (o : RunOptions) (r : ImageRun)
    → IsRunOf x scripts o r → (PortFault → Bool) → Type 0
IsChargedOnce x scripts o r run f =
    IsUntold o r (ports_of run)
    ⊎ IsSum x.geometry f r.answers.items run.played.finished
    (faults_on emu_faults run.on.stops.drives.ports) (faults_on emu_faults run.on.stops.drives.end)

-- ---- the end of a run

-- What the last line of a run says that was stopped at its end: the transaction that it names is undone, and
-- the command that had to fail is of it; the block is one of the drive, and the command is its home write.
abbrev pub IsStopOf : Geometry → RunOptions → ImageRun → List EmuPort → (reached : ℕ) → Last → Type 0
IsStopOf g o r ports reached (StoppedTx tx) =
    IsUndone g r.entries.items reached tx × HasFailedTx o r ports tx
IsStopOf g o r ports reached (StoppedBlock block) =
    (block < homes_of g) × HasFailedHome g o r ports block
IsStopOf g o r ports reached (Clean n) = Unit {0}
IsStopOf g o r ports reached (Cut e) = Unit {0}

-- The last line of a run whose power was to go off after k events gives how many happened, at most k. With a
-- checkpoint at the end it gives the number up to which all stands at home, or reports what stopped the run
-- there. Where nothing was to follow the sessions, it tells no end.
abbrev pub IsEndOf : Ending → Last → Type 0
IsEndOf (ending.Cut k) last = (e : ℕ) × (last ≡ Cut e) × (e ≤ k)
IsEndOf ending.Checkpoint (Clean n) = Unit {0}
IsEndOf ending.Checkpoint (StoppedTx tx) = Unit {0}
IsEndOf ending.Checkpoint (StoppedBlock block) = Unit {0}
IsEndOf ending.Checkpoint (Cut e) = ⊥
IsEndOf ending.Sessions last = (e : ℕ) × (last ≡ Cut e)
