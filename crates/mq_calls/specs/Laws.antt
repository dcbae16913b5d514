-- What holds of the groups that a session runs on the pages that it holds, in one statement each.
use Rattle.std.specs.Prelude.{◌≡◌, ℕ, false, List, [], Some}
use Rattle.std.specs.List.{All}
use Rattle.mq_blocks.specs.Drive.{PortState}
use Rattle.mq_blocks.specs.Machine.{Map}
use Rattle.mq_blocks.specs.declared.geometry.Geometry.{Geometry}
use Rattle.mq_drive.specs.Steps.{PortFault}
use Rattle.mq_drive.specs.declared.port.Port.{Ghosts}
use Rattle.mq_exec.specs.declared.outcome.Done.{Done}
use Rattle.mq_calls.specs.Plans.{DoneOn}
use Rattle.mq_calls.specs.declared.entry.FileEntry.{FileEntry}
use Rattle.mq_journal.specs.Numbers.{Seat, Start}
use Rattle.mq_pages.specs.Held.{Cells}
use Rattle.mq_sessions.specs.Pages.{HoldsPages}
use Rattle.mq_tree.specs.Requests.{is_change}
use Rattle.mq_tree.specs.declared.request.Request.{Request}
use Rattle.mq_calls.specs.Runs.{IsDoneOnCells, IsDoneOnHeld, files, geometry_at}

module _ {P : Type 0} {G : Ghosts P} (state : P → PortState) (faults : P → List PortFault)
    (o : Start P FileEntry G) where
  -- where the session holds the pages, a group that is done on them is done on the map at the newest
  -- number, whatever is known by now
  abbrev pub DoneGroupsStand : Type 0
  DoneGroupsStand =
      (g : Geometry) (cells : Cells) (v : Seat P FileEntry G) (session : ℕ) (requests : List Request)
      (done : Done)
      → v.opening ≡ Some o
      → geometry_at state faults o ≡ g
      → HoldsPages (files state faults) o cells v
      → IsDoneOnCells g session requests cells done
      → IsDoneOnHeld state faults session requests cells v done

-- what a group of requests that only read comes to on the volume of a map
abbrev pub ReadingGroupsChangeNothing : Type 0
ReadingGroupsChangeNothing =
    (g : Geometry) (session : ℕ) (m : Map) (requests : List Request) (done : Done)
    → All (λ r. is_change r ≡ false) requests
    → DoneOn g session m requests done
    → (done.writes.items ≡ []) × (done.frees.items ≡ [])
