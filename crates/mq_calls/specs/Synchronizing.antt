-- A group that is made durable: every number up to its own is done.
use Rattle.std.specs.Prelude.{ℕ, Bool, List, Option}
use Rattle.mq_blocks.specs.Drive.{PortState}
use Rattle.mq_blocks.specs.declared.geometry.Geometry.{Geometry}
use Rattle.mq_drive.specs.Steps.{PortFault}
use Rattle.mq_drive.specs.declared.port.Port.{Ghosts}
use Rattle.mq_calls.specs.Group.{file_group}
use Rattle.mq_calls.specs.declared.entry.FileEntry.{FileEntry}
use Rattle.mq_journal.specs.Numbers.{Seat}
use Rattle.mq_tree.specs.declared.request.Reply.{Reply}
use Rattle.mq_calls.specs.Acts.{Call, NamesCause}
use Rattle.mq_calls.specs.Runs.{file_calls}
use Rattle.mq_queue_side.specs.declared.answers.CallCause.{CallCause}
use Rattle.mq_sessions.specs.Synchronizing as sessions
pub use Rattle.mq_sessions.specs.Synchronizing.{after, before, drawn_at}
use Rattle.mq_sessions.specs.declared.answers.RefusalCause.{RefusalCause}

module _ {P : Type 0} {G : Ghosts P} (state : P → PortState) (faults : P → List PortFault) where
  -- The group is a commit in the history at the number, or a read there; and the session knows every number
  -- up to it to be done.
  abbrev pub IsDurable : Geometry → Call → (at : ℕ) → (drew : Bool) → List Reply → Seat P FileEntry G
      → Seat P FileEntry G → Type 0
  IsDurable g c at drew replies old new = sessions.IsDurable state faults file_group file_calls g c at drew replies old new

  -- Why its session refuses a group that it waits for: as one that it does not wait for; or the group was
  -- done, and a queue was refused.
  abbrev pub IsNotDurableFor : Geometry → Call → Seat P FileEntry G → Seat P FileEntry G → RefusalCause
      → Option ℕ → Type 0
  IsNotDurableFor g c old new why drawn = sessions.IsNotDurable state faults file_group file_calls g c old new why drawn

  -- Why `fsync` refuses a group, with the number that the group had drawn, and what that leaves.
  abbrev pub IsNotDurable : Geometry → Call → Seat P FileEntry G → Seat P FileEntry G → CallCause → Option ℕ
      → Type 0
  IsNotDurable g c old new cause drawn = NamesCause (λ why. IsNotDurableFor g c old new why drawn) cause
