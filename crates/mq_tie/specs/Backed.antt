-- The faults that stand behind what was reported of the ports of a closed desk.
use Rattle.std.specs.Prelude.{◌⊎◌, ◌<◌, ◌≤◌, ◌-◌, ◌^◌, ℕ, List, [], length, map, slice_index_or}
use Rattle.std.specs.List.{Contains}
use Rattle.mq_blocks.specs.Drive.{PortState}
use Rattle.mq_blocks.specs.declared.geometry.Geometry.{Geometry}
use Rattle.mq_drive.specs.Steps.{PortFault}
use Rattle.mq_drive.specs.declared.port.Port.{Ghosts}
use Rattle.mq_journal.specs.Numbers.{Seat, Start}
use Rattle.mq_journal.specs.Values.{side_values}
use Rattle.mq_recover.specs.Drives.{DriveFaults, faults_of}
use Rattle.mq_desk_laws.specs.Faults.{WasGained, named_by}
use Rattle.mq_desk_laws.specs.Groups.{GroupView}
use Rattle.mq_desk_laws.specs.Rule.{shape_of}
use Rattle.mq_tie.specs.Closed.{HasRun}
use Rattle.mq_tie.specs.Runs.{ports_of}
use Rattle.mq_tie.specs.declared.ended.Ended.{Ended}
use Rattle.mq_turns.specs.Desk.{charged_of}
use Rattle.mq_turns.specs.declared.rule.Charge.{Charge}
use Rattle.mq_turns.specs.declared.rule.Report.{Report}
use Rattle.mq_turns.specs.declared.turn.Turn.{Turn}
use Rattle.mq_turns.specs.declared.turn.Turn.TheVariants.{Page, Side, Root}

-- the faults of the port of a queue
abbrev pub faults_at : DriveFaults → ℕ → List PortFault
faults_at d q = slice_index_or d.queues q []

-- The port has gained the fault that the report names, or has as many as a count of 64 bits can say: from
-- there on a call that is refused leaves the list of faults as it is.
abbrev pub IsBehind : Geometry → Report → List PortFault → List PortFault → Type 0
IsBehind g report old new = (2 ^ 64 - 1 ≤ length new) ⊎ WasGained (named_by g report) old new

-- The turn is that of a port of the drive, and what it has gained is behind the report.
abbrev pub IsBehindAt : Geometry → Turn → Report → DriveFaults → DriveFaults → Type 0
IsBehindAt g (Page b) report old new = ⊥
IsBehindAt g (Side q) report old new =
    (q < length old.queues) × IsBehind g report (faults_at old q) (faults_at new q)
IsBehindAt g Root report old new = IsBehind g report old.root new.root

module _ {P E : Type 0} (G : Ghosts P) (state : P → PortState) (faults : P → List PortFault)
    (group : GroupView E) where
  -- the faults of the ports that a desk was opened with
  abbrev pub opened_faults : Start P E G → DriveFaults
  opened_faults o = record { queues = map (λ s. faults s.pmr.port) o.sides; root = faults o.root.port }

  -- what a chair of a closed desk had reported is backed by what the port has gained since the desk was
  -- opened
  abbrev pub ReportsAreBacked : Type 0
  ReportsAreBacked =
      (o : Start P E G) (views : List (Seat P E G)) (r : Ended P E G) (c : Charge)
      → HasRun state faults group o views r
      → Contains (charged_of views) c
      → IsBehindAt (shape_of (side_values state faults) group o) c.port c.report (opened_faults o)
      (faults_of faults (ports_of r) r.root.port)
