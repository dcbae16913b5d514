-- A group that was done on pages of a map, and the plan of its writes.
use Rattle.std.specs.Prelude.{◌≡◌, ◌<◌, ◌≤◌, ◌+◌, ℕ, List, length, map}
use Rattle.mq_blocks.specs.Geometry.{queues_of, write_limit}
use Rattle.mq_blocks.specs.Journal.{number_limit}
use Rattle.mq_blocks.specs.Machine.{Map}
use Rattle.mq_blocks.specs.declared.geometry.Geometry.{Geometry}
use Rattle.mq_exec.specs.Outcomes.{IsDone}
use Rattle.mq_exec.specs.declared.outcome.Done.{Done}
use Rattle.mq_calls.specs.Entries.{freed_by, written_by}
use Rattle.mq_calls.specs.declared.entry.FileEntry.{FileEntry}
use Rattle.mq_ledger.specs.History.{map_after}
use Rattle.mq_ledger.specs.KnownJournal.{KnownJournal, front}
use Rattle.mq_ledger.specs.declared.tx.Tx.{Tx}
use Rattle.mq_revoke.specs.Placing.{IsPlacement}
pub use Rattle.mq_sessions.specs.Plans.{is_data, planned_by, planned_by_cell, planned_with}
use Rattle.mq_tree.specs.Laid.{IsLaid}
use Rattle.mq_tree.specs.Volume.{Volume}
use Rattle.mq_tree.specs.declared.request.Request.{Request}

-- The group of a session is done on the volume of the map.
pub record DoneOn (g : Geometry) (session : ℕ) (m : Map) (requests : List Request)
    (done : Done) : Type 0 where
  pub volume : Volume
  pub laid : IsLaid g m volume
  pub is : IsDone g session volume requests done

-- The entry is of this group of the session, with its outcome.
pub record IsEntryOf (session : ℕ) (requests : List Request) (done : Done) (e : FileEntry) : Type 0 where
  pub session_is : e.session ≡ session
  pub requests_are : e.requests ≡ requests
  pub replies_are : e.replies ≡ done.replies.items
  pub writes_are : written_by e ≡ done.writes.items
  pub frees_are : freed_by e ≡ done.frees.items

-- the map at the newest number
abbrev pub map_known : KnownJournal → Map
map_known k = map_after k.start k.history

-- ---- placing

-- The blocks of the group are placed by the rule, with the front and the base that the session had read.
abbrev pub IsPlaced : Geometry → Map → ℕ → List Tx → FileEntry → Type 0
IsPlaced g start base txs e =
    IsPlacement g e.session e.reads.front e.reads.base
    (map (planned_by start base txs) (written_by e)) e.placed

-- They are so by what is known. What was read may have been read earlier.
pub record IsPlanned (k : KnownJournal) (e : FileEntry) : Type 0 where
  pub few : length (written_by e) ≤ write_limit k.geometry
  pub front_low : e.reads.front ≤ front k
  pub base_low : e.reads.base ≤ k.word
  pub placed : IsPlaced k.geometry k.start k.base k.history e

-- The session has a queue of the drive, and there is a number for its group.
pub record HasNumber (k : KnownJournal) (e : FileEntry) : Type 0 where
  pub queue : e.session < queues_of k.geometry
  pub limit : k.base + length k.history + 1 ≤ number_limit
