-- What holds of what a run reports, in one statement each.
use Rattle.std.specs.Prelude.{ℕ, Bool, List}
use Rattle.std.specs.List.{All, AllPairs}
use Rattle.mq_blocks.specs.Drive.{PortState}
use Rattle.mq_blocks.specs.declared.geometry.Geometry.{Geometry}
use Rattle.mq_drive.specs.Steps.{PortFault}
use Rattle.mq_drive.specs.declared.port.Port.{Ghosts}
use Rattle.mq_drive.specs.declared.port.Ports.{Ports}
use Rattle.mq_run_laws.specs.Histories.{AreOfBytes}
use Rattle.mq_run_laws.specs.Legal.{IsRun}
use Rattle.mq_image.specs.File.{DriveImage}
use Rattle.mq_run_laws.specs.Runs.{IsRunOf}
use Rattle.mq_run_laws.specs.declared.options.RunOptions.{RunOptions}
use Rattle.mq_run_laws.specs.declared.ran.ImageRun.{ImageRun}
use Rattle.mq_recover.specs.declared.standing.Standing.{Standing}
use Rattle.mq_report.specs.Lines.{Line}
use Rattle.mq_report.specs.Orders.{IsToldBefore, Precedes}
use Rattle.mq_report.specs.Ranges.{HaveFitReplies}
use Rattle.mq_report.specs.Reports.{MayBeReported}
use Rattle.mq_run.specs.Playing.{IsShort}
use Rattle.mq_run.specs.Runs.{HasRunScripts}
use Rattle.mq_run.specs.declared.end.RunEnd.{RunEnd}
use Rattle.mq_script.specs.Scripts.{Script}
use Rattle.mq_tree.specs.Sound.{IsSound}
use Rattle.mq_tree.specs.Volume.{Volume}

module _ {P : Type 0} (G : Ghosts P) (state : P → PortState) (faults : P → List PortFault) where
  -- The lines and the answers stand in their order, where the groups can be counted in 32 bits.
  abbrev pub RunsAreInOrder : Type 0
  RunsAreInOrder =
      (g : Geometry) (ports : Ports P) (s : Standing) (scripts : List Script) (finish : Bool) (e : RunEnd P)
      → HasRunScripts G state faults g ports s scripts finish e
      → All (λ script. IsShort script.groups) scripts
      → AllPairs Precedes e.entries.items × AllPairs IsToldBefore e.answers.items

-- the replies of a run from a sound volume on are bytes and good names, where the scripts write bytes
abbrev pub LegalListsHaveFitReplies : Type 0
LegalListsHaveFitReplies =
    (g : Geometry) (scripts : List Script) (v : Volume) (base : ℕ) (lines : List Line)
    → IsSound g v
    → AreOfBytes scripts
    → IsRun g scripts v base lines
    → HaveFitReplies lines

-- so what a run on an image reports has both
abbrev pub ImageRunsMayBeReported : Type 0
ImageRunsMayBeReported =
    (x : DriveImage) (scripts : List Script) (o : RunOptions) (r : ImageRun)
    → IsRunOf x scripts o r
    → AreOfBytes scripts
    → MayBeReported r.entries.items r.answers.items
