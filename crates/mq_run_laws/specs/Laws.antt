-- What a run of scripts is, in the words of its report, in one statement each.
use Rattle.std.specs.Prelude.{◌≡◌, ◌<◌, ◌≤◌, ℕ, Bool, List, Err, Ok, Some}
use Rattle.std.specs.List.{All, Contains}
use Rattle.mq_nvme.specs.Says.{journal_reading}
use Rattle.mq_blocks.specs.Drive.{PortImage, PortState}
use Rattle.mq_blocks.specs.Geometry.{queues_of}
use Rattle.mq_blocks.specs.Journal.{shown}
use Rattle.mq_blocks.specs.declared.geometry.Geometry.{Geometry}
use Rattle.mq_drive.specs.Steps.{PortFault}
use Rattle.mq_drive.specs.declared.port.Port.{Ghosts}
use Rattle.mq_drive.specs.declared.port.Ports.{Ports}
use Rattle.mq_calls.specs.Group.{file_group}
use Rattle.mq_journal.specs.Values.{side_values}
use Rattle.mq_ledger.specs.KnownJournal.{front}
use Rattle.mq_ledger.specs.State.{port_at}
use Rattle.mq_run_laws.specs.Answers.{AreAnswered, AreCaused, IsAcknowledged}
use Rattle.mq_run_laws.specs.Cuts.{IsClean, IsCut, IsRung}
use Rattle.mq_run_laws.specs.Histories.{AreOfBytes}
use Rattle.mq_run_laws.specs.Legal.{IsLegal, newest}
use Rattle.mq_queue_side.specs.declared.answers.CallCause.TheVariants.{Drive}
use Rattle.mq_queue_side.specs.declared.answers.Refusal.{Refusal}
use Rattle.mq_report.specs.declared.line.Told.{Told}
use Rattle.mq_queue_side.specs.declared.answers.Cause.{Cause}
use Rattle.mq_recover.specs.Drives.{AreImages, drive_of, faults_on}
use Rattle.mq_recover.specs.declared.standing.Standing.{Standing}
use Rattle.mq_run.specs.Laws.{IsBehindStop}
use Rattle.mq_run.specs.Playing.{IsShort}
use Rattle.mq_run.specs.Runs.{HasRunScripts}
use Rattle.mq_run.specs.declared.end.RunEnd.{RunEnd}
use Rattle.mq_desk_laws.specs.Rule.{core_of}
use Rattle.mq_script.specs.Scripts.{Script}
use Rattle.mq_tree.specs.Laid.{IsLaid, map_of}
use Rattle.mq_tree.specs.Volume.{Volume}

-- the doorbell of a queue
abbrev pub bell_of : {P : Type 0} → (P → PortState) → (queue : ℕ) → Ports P → ℕ
bell_of state q ports = (port_at (drive_of state ports).queues q).doorbell

module _ {P : Type 0} (G : Ghosts P) (state : P → PortState) (faults : P → List PortFault) where
  -- The lines of a run are a legal list from the base and the volume that lay on the home blocks at the
  -- opening, where the groups can be counted in 32 bits and the scripts write bytes.
  abbrev pub RunsAreLegal : Type 0
  RunsAreLegal =
      (g : Geometry) (ports : Ports P) (s : Standing) (scripts : List Script) (finish : Bool)
      (e : RunEnd P) (v : Volume)
      → HasRunScripts G state faults g ports s scripts finish e
      → All (λ script. IsShort script.groups) scripts
      → AreOfBytes scripts
      → IsLaid g (map_of g s.blocks.items) v
      → IsLegal g scripts v s.base e.entries.items

  -- Of each script the groups of a prefix are answered, each once, with the numbers of their lines; and
  -- each line is that of an answered group.
  abbrev pub RunsAreAnswered : Type 0
  RunsAreAnswered =
      (g : Geometry) (ports : Ports P) (s : Standing) (scripts : List Script) (finish : Bool) (e : RunEnd P)
      → HasRunScripts G state faults g ports s scripts finish e
      → All (λ script. IsShort script.groups) scripts
      → AreAnswered scripts e.entries.items e.answers.items

  -- What `fsync` has answered is known to be done at the end.
  abbrev pub AcknowledgedNumbersAreDone : Type 0
  AcknowledgedNumbersAreDone =
      (g : Geometry) (ports : Ports P) (s : Standing) (scripts : List Script) (finish : Bool)
      (e : RunEnd P) (n : ℕ)
      → (run : HasRunScripts G state faults g ports s scripts finish e)
      → All (λ script. IsShort script.groups) scripts
      → IsAcknowledged scripts e.answers.items n
      → n ≤ front (core_of (side_values state faults) file_group run.ends.run.end.known)

  -- Whatever a power cut leaves of the ports at the end is a cut of this history.
  abbrev pub EndsAreCuts : Type 0
  EndsAreCuts =
      (g : Geometry) (ports : Ports P) (s : Standing) (scripts : List Script) (finish : Bool)
      (e : RunEnd P) (v : Volume)
      (queues : List PortImage) (root : PortImage)
      → HasRunScripts G state faults g ports s scripts finish e
      → All (λ script. IsShort script.groups) scripts
      → AreOfBytes scripts
      → IsLaid g (map_of g s.blocks.items) v
      → AreImages g (drive_of state e.ports) queues root
      → (r : ℕ)
      × IsCut g scripts v s.base e.entries.items e.answers.items (shown journal_reading g queues root) r

  -- Where the checkpoint at the end answered a number, it is the last one of the lines, and each image of
  -- the ports is clean, whether the power was cut or not.
  abbrev pub FinishedEndsAreClean : Type 0
  FinishedEndsAreClean =
      (g : Geometry) (ports : Ports P) (s : Standing) (scripts : List Script) (finish : Bool)
      (e : RunEnd P) (n : ℕ)
      (queues : List PortImage) (root : PortImage)
      → HasRunScripts G state faults g ports s scripts finish e
      → All (λ script. IsShort script.groups) scripts
      → e.finished ≡ Some (Ok n)
      → AreImages g (drive_of state e.ports) queues root
      → (n ≡ newest s.base e.entries.items) × IsClean g (shown journal_reading g queues root) n

  -- The doorbell of each queue has gone on by the entries of its commits in a prefix of the lines, behind
  -- which none was answered well.
  abbrev pub DoorbellsAreRung : Type 0
  DoorbellsAreRung =
      (g : Geometry) (ports : Ports P) (s : Standing) (scripts : List Script) (finish : Bool)
      (e : RunEnd P) (v : Volume) (q : ℕ)
      → HasRunScripts G state faults g ports s scripts finish e
      → All (λ script. IsShort script.groups) scripts
      → AreOfBytes scripts
      → IsLaid g (map_of g s.blocks.items) v
      → q < queues_of g
      → IsRung g scripts v e.entries.items e.answers.items q (bell_of state q ports)
      (bell_of state q e.ports)

  -- Each refusal has its cause in the scripts and the history, with the number that an image of the ports at
  -- the end reaches.
  abbrev pub RefusalsAreCaused : Type 0
  RefusalsAreCaused =
      (g : Geometry) (ports : Ports P) (s : Standing) (scripts : List Script) (finish : Bool)
      (e : RunEnd P) (v : Volume) (reached : ℕ)
      (queues : List PortImage) (root : PortImage)
      → HasRunScripts G state faults g ports s scripts finish e
      → All (λ script. IsShort script.groups) scripts
      → AreOfBytes scripts
      → IsLaid g (map_of g s.blocks.items) v
      → AreImages g (drive_of state e.ports) queues root
      → IsCut g scripts v s.base e.entries.items e.answers.items
      (shown journal_reading g queues root) reached
      → AreCaused g scripts v s.base e.entries.items reached e.answers.items

  -- Each refusal for a port's cause is backed by a port: what it has gained since the opening is behind the
  -- report.
  abbrev pub RefusalsAreBacked : Type 0
  RefusalsAreBacked =
      (g : Geometry) (ports : Ports P) (s : Standing) (scripts : List Script) (finish : Bool)
      (e : RunEnd P) (t : Told) (r : Refusal) (cause : Cause)
      → HasRunScripts G state faults g ports s scripts finish e
      → All (λ script. IsShort script.groups) scripts
      → Contains e.answers.items t
      → t.answer ≡ Err r
      → r.cause ≡ Drive cause
      → IsBehindStop g cause (faults_on faults ports) (faults_on faults e.ports)
