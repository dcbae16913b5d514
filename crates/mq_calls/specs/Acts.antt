-- What the calls of a session do, and what they leave of what the session knows.
use Rattle.std.specs.Prelude.{◌≡◌, ℕ, Bool, List, Option}
use Rattle.mq_blocks.specs.Drive.{PortState}
use Rattle.mq_blocks.specs.declared.geometry.Geometry.{Geometry}
use Rattle.mq_drive.specs.Steps.{PortFault}
use Rattle.mq_drive.specs.declared.port.Port.{Ghosts}
use Rattle.mq_calls.specs.Group.{file_group}
use Rattle.mq_calls.specs.declared.entry.FileEntry.{FileEntry}
use Rattle.mq_journal.specs.Numbers.{Seat}
pub use Rattle.mq_sessions.specs.Acts.{GoesOn, KeepsAll}
use Rattle.mq_sessions.specs.Calls.{Call as SessionCall}
use Rattle.mq_tree.specs.declared.request.Reply.{Reply}
use Rattle.mq_tree.specs.declared.request.Request.{Request}
use Rattle.mq_sessions.specs.Attempts as attempts
use Rattle.mq_sessions.specs.Refusing as refusing
use Rattle.mq_sessions.specs.declared.answers.Answer.{Answer as SessionAnswer}
pub use Rattle.mq_sessions.specs.declared.answers.RefusalCause.{RefusalCause}
use Rattle.mq_sessions.specs.declared.answers.RefusalCause.TheVariants as given
pub use Rattle.mq_sessions.specs.Attempts.{again, at_once}
pub use Rattle.mq_sessions.specs.Refusing.{before, cut, memory, no_room, too_large, turned_down}
use Rattle.mq_calls.specs.Runs.{file_calls}
pub use Rattle.mq_calls.specs.Runs.{IsOfCall}
use Rattle.mq_queue_side.specs.declared.answers.CallCause.{CallCause}
use Rattle.mq_queue_side.specs.declared.answers.CallCause.TheVariants as refused

-- a call of a session
abbrev pub Call : Type 0
Call = SessionCall Request

-- what a group that was done is answered
abbrev pub Answer : Type 0
Answer = SessionAnswer Reply

-- what a call answers where its session was refused for this
abbrev pub cause_as : RefusalCause → CallCause
cause_as given.OutOfMemory = refused.OutOfMemory
cause_as (given.TooLarge count limit) = refused.TooLarge count limit
cause_as (given.Drive why) = refused.Drive why

-- This holds of a cause for which a session refuses, and a file system names it so.
pub record NamesCause (holds : RefusalCause → Type 0) (cause : CallCause) : Type 0 where
  pub why : RefusalCause
  pub cause_is : cause ≡ cause_as why
  pub is : holds why

module _ {P : Type 0} {G : Ghosts P} where
  -- The session has read, at this number, a group that neither writes nor frees.
  abbrev pub ReadsOnly : Call → List Reply → (at : ℕ) → Seat P FileEntry G → Seat P FileEntry G → Type 0
  ReadsOnly c replies at old new = attempts.ReadsOnly file_calls c replies at old new

module _ {P : Type 0} {G : Ghosts P} (state : P → PortState) (faults : P → List PortFault) where
  -- ---- a group that was done

  -- where the group was run that is answered: at once, or once more after a checkpoint
  abbrev pub Begins : Geometry → Call → Seat P FileEntry G → Seat P FileEntry G → Type 0
  Begins g c old new = attempts.Begins state faults file_group file_calls g c old new

  -- The group is a commit in the history at the number, and rung; or it is a read there.
  abbrev pub HasActed : Geometry → Call → (at : ℕ) → (drew : Bool) → List Reply → Seat P FileEntry G
      → Seat P FileEntry G → Type 0
  HasActed g c at drew replies old new = attempts.HasActed state faults file_group file_calls g c at drew replies old new

  -- The group was run at once or after a checkpoint, and nothing was waited for after it.
  abbrev pub HasNotWaited : Geometry → Call → (at : ℕ) → (drew : Bool) → Seat P FileEntry G
      → Seat P FileEntry G → Type 0
  HasNotWaited g c at drew old new = attempts.HasNotWaited state faults file_group file_calls g c at drew old new

  -- ---- a group that was refused

  -- Why a group that was run on its pages is refused, with the number that it had drawn, and what that
  -- leaves.
  abbrev pub IsTurnedDown : Geometry → Call → Seat P FileEntry G → Seat P FileEntry G → RefusalCause → Option ℕ
      → Type 0
  IsTurnedDown g c old new why drawn = refusing.IsTurnedDown state faults file_group file_calls g c old new why drawn

  -- Why its session refuses a group that it does not wait for: the group was turned down; or its plan did not
  -- fit the journal area, and the checkpoint was refused.
  abbrev pub IsRefusedFor : Geometry → Call → Seat P FileEntry G → Seat P FileEntry G → RefusalCause → Option ℕ
      → Type 0
  IsRefusedFor g c old new why drawn = refusing.IsRefused state faults file_group file_calls g c old new why drawn

  -- Why `fatomic` refuses a group, with the number that the group had drawn, and what that leaves.
  abbrev pub IsRefused : Geometry → Call → Seat P FileEntry G → Seat P FileEntry G → CallCause → Option ℕ
      → Type 0
  IsRefused g c old new cause drawn = NamesCause (λ why. IsRefusedFor g c old new why drawn) cause
