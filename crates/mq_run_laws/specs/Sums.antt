-- How many of the answers of a run charge a fault to a port, and how many faults its ports have gained.
use Rattle.std.specs.Prelude.{◌⊎◌, ◌<◌, ◌≤◌, ◌+◌, ◌-◌, ◌^◌, ℕ, Bool, cond, List, length, Option, None, Some, Result, Ok, Err}
use Rattle.std.specs.List.{All}
use Rattle.mq_blocks.specs.Drive.{PortState}
use Rattle.mq_blocks.specs.Totals.{total}
use Rattle.mq_blocks.specs.declared.geometry.Geometry.{Geometry}
use Rattle.mq_queue_side.specs.declared.answers.CallCause.{CallCause}
use Rattle.mq_queue_side.specs.declared.answers.CallCause.TheVariants.{Changes, Drive, OutOfMemory, TooLarge}
use Rattle.mq_queue_side.specs.declared.answers.Refusal.{Refusal}
use Rattle.mq_journal.specs.declared.refusal.CheckpointRefusal.{CheckpointRefusal}
use Rattle.mq_journal.specs.declared.refusal.CheckpointRefusal.TheVariants as checkpoint
use Rattle.mq_desk_laws.specs.Faults.{fault_of, of_kind, passes}
use Rattle.mq_drive.specs.Faults.{count_of}
use Rattle.mq_drive.specs.Steps.{PortFault}
use Rattle.mq_drive.specs.declared.port.Port.{Ghosts}
use Rattle.mq_drive.specs.declared.port.Ports.{Ports}
use Rattle.mq_journal.specs.Draining.{report_of}
use Rattle.mq_recover.specs.Drives.{DriveFaults, faults_on}
use Rattle.mq_recover.specs.declared.standing.Standing.{Standing}
use Rattle.mq_report.specs.declared.line.Told.{Told}
use Rattle.mq_run.specs.Playing.{IsShort}
use Rattle.mq_run.specs.Runs.{HasRunScripts}
use Rattle.mq_run.specs.declared.end.RunEnd.{RunEnd}
use Rattle.mq_script.specs.Scripts.{Script}
use Rattle.mq_tie.specs.Backed.{faults_at}

-- ---- answers

-- The fault that a refusal for this cause charges to a port: an `Off`, an error of a command or one of a home
-- write. One for a queue that had stopped charges none.
abbrev pub charged_by : Geometry → CallCause → Option PortFault
charged_by g (Drive cause) = fault_of g (report_of cause)
charged_by g OutOfMemory = None
charged_by g (TooLarge count limit) = None
charged_by g (Changes index) = None

abbrev pub charged_answer : Geometry → Result ℕ Refusal → Option PortFault
charged_answer g (Ok number) = None
charged_answer g (Err r) = charged_by g r.cause

-- the same of the checkpoint at the end, if one was made
abbrev pub charged_stop : Geometry → CheckpointRefusal → Option PortFault
charged_stop g (checkpoint.Drive cause) = fault_of g (report_of cause)
charged_stop g checkpoint.OutOfMemory = None

abbrev pub charged_end : Geometry → Option (Result ℕ CheckpointRefusal) → Option PortFault
charged_end g None = None
charged_end g (Some (Ok base)) = None
charged_end g (Some (Err why)) = charged_stop g why

-- 1 where there is a fault and it passes the test, else 0
abbrev pub one_if : (PortFault → Bool) → Option PortFault → ℕ
one_if f x = cond (passes f x) 1 0

-- how many of the answers charge a fault that passes the test
abbrev pub charges_among : Geometry → (PortFault → Bool) → List Told → ℕ
charges_among g f answers = total (λ t. one_if f (charged_answer g t.answer)) answers

-- ---- faults

-- how many faults of all ports pass the test
abbrev pub faults_among : (PortFault → Bool) → DriveFaults → ℕ
faults_among f d = total (λ faults. count_of f faults) d.queues + count_of f d.root

-- one of the ports has as many as a count of 64 bits can say, and counts none from there on
abbrev pub HasCountedAll : DriveFaults → Type 0
HasCountedAll d =
    ((q : ℕ) × (q < length d.queues) × (2 ^ 64 - 1 ≤ length (faults_at d q)))
    ⊎ (2 ^ 64 - 1 ≤ length d.root)

-- ---- the sum

-- The answers to groups, and that of the checkpoint at the end, which charge a fault of these kinds are
-- together at most as many as the faults of these kinds that the ports gained.
abbrev pub IsSum : Geometry → (PortFault → Bool) → List Told → Option (Result ℕ CheckpointRefusal)
    → (old new : DriveFaults) → Type 0
IsSum g f answers finished old new =
    charges_among g (of_kind f) answers + one_if (of_kind f) (charged_end g finished)
    + faults_among (of_kind f) old
    ≤ faults_among (of_kind f) new

-- so it is, or one of the ports counts no more
abbrev pub AreChargedOnce : Geometry → (PortFault → Bool) → List Told
    → Option (Result ℕ CheckpointRefusal) → (old new : DriveFaults) → Type 0
AreChargedOnce g f answers finished old new = HasCountedAll new ⊎ IsSum g f answers finished old new

module _ {P : Type 0} (G : Ghosts P) (state : P → PortState) (faults : P → List PortFault) where
  -- So it is of each run. All errors of commands are of one kind, since a refusal names the least transaction of
  -- those that failed.
  abbrev pub RefusalsAreChargedOnce : Type 0
  RefusalsAreChargedOnce =
      (g : Geometry) (ports : Ports P) (s : Standing) (scripts : List Script) (finish : Bool)
      (e : RunEnd P) (f : PortFault → Bool)
      → HasRunScripts G state faults g ports s scripts finish e
      → All (λ script. IsShort script.groups) scripts
      → AreChargedOnce g f e.answers.items e.finished (faults_on faults ports) (faults_on faults e.ports)
