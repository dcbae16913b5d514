-- What holds of a run, in one statement each.
use Rattle.std.specs.Prelude.{◌≡◌, ℕ, Bool, List, Err, Ok, Some}
use Rattle.mq_blocks.specs.Drive.{PortState}
use Rattle.mq_blocks.specs.declared.geometry.Geometry.{Geometry}
use Rattle.mq_journal.specs.declared.refusal.CheckpointRefusal.TheVariants.{Drive}
use Rattle.mq_drive.specs.Steps.{PortFault}
use Rattle.mq_drive.specs.declared.port.Port.{Ghosts}
use Rattle.mq_drive.specs.declared.port.Ports.{Ports}
use Rattle.mq_journal.specs.Draining.{report_of}
use Rattle.mq_recover.specs.Drives.{AreBoundsKept, ArePorts, DriveFaults, drive_of, faults_on}
use Rattle.mq_recover.specs.declared.standing.Standing.{Standing}
use Rattle.mq_run.specs.Runs.{HasRunScripts}
use Rattle.mq_run.specs.declared.end.RunEnd.{RunEnd}
use Rattle.mq_script.specs.Scripts.{Script}
use Rattle.mq_queue_side.specs.declared.answers.Cause.{Cause}
use Rattle.mq_tie.specs.Backed.{IsBehindAt}
use Rattle.mq_turns.specs.declared.turn.Turn.{Turn}

-- the number is the last one, and the base of the root's port, as stored and as flushed
pub record IsClean (n next : ℕ) (root : PortState) : Type 0 where
  pub last : n ≡ next
  pub flushed : root.base ≡ n
  pub stored : root.stored_base ≡ n

-- The drive refused a call on one of its ports, and what this port has gained is behind the report of it.
pub record IsBehindStop (g : Geometry) (why : Cause) (old new : DriveFaults) : Type 0 where
  pub port : Turn
  pub behind : IsBehindAt g port (report_of why) old new

module _ {P : Type 0} (G : Ghosts P) (state : P → PortState) (faults : P → List PortFault) where
  -- the ports that a run gives back are those of the drive, each with its fuse and its failing command
  abbrev pub RunsKeepTheirPorts : Type 0
  RunsKeepTheirPorts =
      (g : Geometry) (ports : Ports P) (s : Standing) (scripts : List Script) (finish : Bool) (e : RunEnd P)
      → HasRunScripts G state faults g ports s scripts finish e
      → ArePorts g (drive_of state e.ports)
      × AreBoundsKept g (drive_of state ports) (drive_of state e.ports)

  -- the base that the checkpoint at the end raised is the last number
  abbrev pub FinishedRunsAreClean : Type 0
  FinishedRunsAreClean =
      (g : Geometry) (ports : Ports P) (s : Standing) (scripts : List Script) (finish : Bool)
      (e : RunEnd P) (n : ℕ)
      → HasRunScripts G state faults g ports s scripts finish e
      → e.finished ≡ Some (Ok n)
      → IsClean n e.next (state e.ports.root)

  -- where the drive refused the checkpoint at the end, a port has gained a fault for it
  abbrev pub StopsAreBacked : Type 0
  StopsAreBacked =
      (g : Geometry) (ports : Ports P) (s : Standing) (scripts : List Script) (finish : Bool)
      (e : RunEnd P) (why : Cause)
      → HasRunScripts G state faults g ports s scripts finish e
      → e.finished ≡ Some (Err (Drive why))
      → IsBehindStop g why (faults_on faults ports) (faults_on faults e.ports)
