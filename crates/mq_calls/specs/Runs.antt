-- A group of file requests on the pages that a session holds.
use Rattle.std.specs.Prelude.{◌≡◌, ℕ, List}
use Rattle.mq_blocks.specs.Drive.{PortState}
use Rattle.mq_blocks.specs.declared.geometry.Geometry.{Geometry}
use Rattle.mq_drive.specs.Steps.{PortFault}
use Rattle.mq_drive.specs.declared.port.Port.{Ghosts}
use Rattle.mq_exec.specs.Outcomes.{AreKnown, Answers}
use Rattle.mq_exec.specs.declared.outcome.Done.{Done}
use Rattle.mq_exec.specs.declared.outcome.Outcome.TheVariants.{Done as IsDone}
use Rattle.mq_calls.specs.Entries.{IsAllLogged, freed_by, written_by}
use Rattle.mq_calls.specs.Group.{file_group}
use Rattle.mq_calls.specs.Plans.{DoneOn, IsEntryOf}
use Rattle.mq_calls.specs.declared.entry.FileEntry.{FileEntry}
use Rattle.mq_inodes.specs.Pages.{held_pages}
use Rattle.mq_journal.specs.Machine.{journal}
use Rattle.mq_journal.specs.Values.{side_values}
use Rattle.mq_pages.specs.Held.{Cells}
use Rattle.mq_pages.specs.declared.page.PageCell.{PageCell}
use Rattle.mq_desk_laws.specs.Rule.{DeskState, geometry_of, map_now, shape_of}
use Rattle.mq_desk_laws.specs.Values.{Values}
use Rattle.mq_queue_side.specs.declared.root.Root.{Root}
use Rattle.mq_queue_side.specs.declared.side.QueueSide.{QueueSide}
use Rattle.mq_sessions.specs.Calls.{Call}
use Rattle.mq_sessions.specs.Executors.{CallView}
use Rattle.mq_tree.specs.declared.request.Reply.{Reply}
use Rattle.mq_tree.specs.declared.request.Request.{Request}
use Rattle.mq_turns.specs.Desk.{Sees}
use Rattle.mq_turns.specs.Meaning.{Meaning}
use Rattle.mq_turns.specs.declared.rule.Opening.{Opening}
use Rattle.mq_turns.specs.declared.rule.ChairView.{ChairView}

-- The group is done so on each volume of which the pages in these cells may be a part. The page of each
-- block that it changes is among them.
abbrev pub IsDoneOnCells : Geometry → (session : ℕ) → List Request → Cells → Done → Type 0
IsDoneOnCells g session requests cells done = Answers g session (held_pages cells) requests (IsDone done)

-- the entry is of this call and of what its group came to
pub record IsEntryFor (c : Call Request) (done : Done) (e : FileEntry) : Type 0 where
  pub is : IsEntryOf c.session c.requests done e
  pub call : e.call ≡ c.count
  pub durable : e.durable ≡ c.durable

-- the entry is of this call, with these replies
pub record IsOfCall (c : Call Request) (replies : List Reply) (e : FileEntry) : Type 0 where
  pub session : e.session ≡ c.session
  pub call : e.call ≡ c.count
  pub durable : e.durable ≡ c.durable
  pub requests : e.requests ≡ c.requests
  pub replies_are : e.replies ≡ replies

-- how a group of file requests is read, and what it came to
abbrev pub file_calls : CallView FileEntry Request Reply Done
file_calls = record {
  replies = λ done. done.replies.items;
  writes = λ done. done.writes.items;
  frees = λ done. done.frees.items;
  on_cells = λ g session cells requests done. IsDoneOnCells g session requests cells done;
  on_map = λ g session m requests done. DoneOn g session m requests done;
  entry_for = λ c done e. IsEntryFor c done e;
  undrawn = λ e. IsAllLogged e;
  of_call = λ c replies e. IsOfCall c replies e;
  written = written_by;
  freed = freed_by;
  placed = λ e. e.placed;
  reads = λ e. e.reads;
}

module _ {P : Type 0} {G : Ghosts P} (state : P → PortState) (faults : P → List PortFault) where
  -- what the sides and the root show, and what the values and the groups mean
  abbrev pub file_values : Values (QueueSide P FileEntry G) (Root P G) FileEntry
  file_values = side_values state faults

  abbrev pub files : Meaning PageCell (QueueSide P FileEntry G) (Root P G) FileEntry
  files = journal state faults file_group

  -- the shape of the drive, by the values that a desk was opened with
  abbrev pub geometry_at : Opening PageCell (QueueSide P FileEntry G) (Root P G) → Geometry
  geometry_at o = shape_of file_values file_group o

  -- The page of each block that the group changes is held, and whatever is known by now, the group is done
  -- so on the map at the newest number.
  pub record IsDoneOnHeld (session : ℕ) (requests : List Request) (cells : Cells)
      (v : ChairView PageCell (QueueSide P FileEntry G) (Root P G) FileEntry)
      (done : Done) : Type 0 where
    pub known : AreKnown (held_pages cells) done
    pub does : (K : DeskState file_values file_group) → Sees files v K
        → DoneOn (geometry_of file_values file_group K) session
        (map_now file_values file_group K) requests done
