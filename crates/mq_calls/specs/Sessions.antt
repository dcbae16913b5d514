-- A session between two calls.
use Rattle.std.specs.Prelude.{ℕ}
use Rattle.mq_blocks.specs.declared.geometry.Geometry.{Geometry}
use Rattle.mq_drive.specs.declared.port.Port.{Ghosts}
use Rattle.mq_calls.specs.Group.{file_group}
use Rattle.mq_calls.specs.declared.entry.FileEntry.{FileEntry}
use Rattle.mq_journal.specs.Numbers.{Seat}
use Rattle.mq_pages.specs.Held.{HeldCells}
use Rattle.mq_sessions.specs.Calls as sessions

module _ {P : Type 0} {G : Ghosts P} where
  -- each group that it has drawn or read is of one of its first `calls` calls
  abbrev pub HasCalled : (calls : ℕ) → Seat P FileEntry G → Type 0
  HasCalled calls v = sessions.HasCalled file_group calls v

  -- It has the number of a queue, holds no turn and no cell, and has room for the cells of all home blocks.
  abbrev pub IsReady : Geometry → (session calls : ℕ) → HeldCells → Seat P FileEntry G → Type 0
  IsReady g session calls cells v = sessions.IsReady file_group g session calls cells v
