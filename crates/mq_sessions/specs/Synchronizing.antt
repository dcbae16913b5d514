-- A group that is made durable: every number up to its own is done.
use Rattle.std.specs.Prelude.{◌≡◌, ◌≤◌, ℕ, Bool, true, false, List, Option, Some, None}
use Rattle.mq_blocks.specs.Drive.{PortState}
use Rattle.mq_blocks.specs.Geometry.{queues_of}
use Rattle.mq_blocks.specs.declared.geometry.Geometry.{Geometry}
use Rattle.mq_desk_laws.specs.Groups.{GroupView}
use Rattle.mq_drive.specs.Steps.{PortFault}
use Rattle.mq_drive.specs.declared.port.Port.{Ghosts}
use Rattle.mq_journal.specs.Numbers.{Seat}
use Rattle.mq_journal.specs.Sweeping.{NamesUpto, WasRefused}
use Rattle.mq_queue_side.specs.declared.answers.Cause.{Cause}
use Rattle.mq_sessions.specs.Attempts.{HasActed}
use Rattle.mq_sessions.specs.Calls.{Call}
use Rattle.mq_sessions.specs.Executors.{CallView}
use Rattle.mq_sessions.specs.Refusing.{IsRefused}
use Rattle.mq_sessions.specs.declared.answers.RefusalCause.{RefusalCause}
use Rattle.mq_sessions.specs.declared.answers.RefusalCause.TheVariants.{Drive}

-- the number that a group has drawn, if it drew one
abbrev pub drawn_at : (at : ℕ) → (drew : Bool) → Option ℕ
drawn_at at true = Some at
drawn_at at false = None

module _ {P E : Type 0} {G : Ghosts P} (state : P → PortState) (faults : P → List PortFault) (group : GroupView E) where
  -- The drain of a queue came to a refusal, after a group that had drawn this.
  pub record WasDrainRefused (g : Geometry) (at : ℕ) (drew : Bool) (old new : Seat P E G)
      (cause : RefusalCause) (drawn : Option ℕ) : Type 0 where
    pub why : Cause
    pub cause_is : cause ≡ Drive why
    pub drawn_is : drawn ≡ drawn_at at drew
    pub refused : WasRefused state faults group (queues_of g) at why old new
    pub upto : NamesUpto at why

module _ {P E Req Rep D : Type 0} {G : Ghosts P} (state : P → PortState) (faults : P → List PortFault)
    (group : GroupView E) (calls : CallView E Req Rep D) where
  -- The group is a commit in the history at the number, or a read there; and the session knows every number
  -- up to it to be done.
  pub record IsDurable (g : Geometry) (c : Call Req) (at : ℕ) (drew : Bool) (replies : List Rep)
      (old new : Seat P E G) : Type 0 where
    pub acted : HasActed state faults group calls g c at drew replies old new
    pub done : at ≤ new.reading.done

  -- It was done so, and then the drain of a queue came to this refusal, which names no number above the
  -- group's own.
  pub record WasActed (g : Geometry) (c : Call Req) (cause : Cause) (drawn : Option ℕ)
      (old new : Seat P E G) : Type 0 where
    pub at : ℕ
    pub drew : Bool
    pub replies : List Rep
    pub between : Seat P E G
    pub acted : HasActed state faults group calls g c at drew replies old between
    pub refused : WasRefused state faults group (queues_of g) at cause between new
    pub upto : NamesUpto at cause
    pub drawn_is : drawn ≡ drawn_at at drew

  -- Why a call is refused that waits until its group is done: as one that does not wait; or the group was
  -- done, and a queue was refused.
  pub data IsNotDurable (g : Geometry) (c : Call Req) (old new : Seat P E G) : RefusalCause → Option ℕ
      → Type 0 where
    before : {cause : RefusalCause} {drawn : Option ℕ} → IsRefused state faults group calls g c old new cause drawn
        → IsNotDurable g c old new cause drawn
    after : {cause : Cause} {drawn : Option ℕ} → WasActed g c cause drawn old new
        → IsNotDurable g c old new (Drive cause) drawn
