-- Why a call is refused, and what that leaves.
use Rattle.std.specs.Prelude.{ℕ, List, Option, Some, None}
use Rattle.mq_blocks.specs.Drive.{PortState}
use Rattle.mq_blocks.specs.declared.geometry.Geometry.{Geometry}
use Rattle.mq_journal.specs.Raised.{HasRefused}
use Rattle.mq_journal.specs.declared.refusal.CheckpointRefusal.{CheckpointRefusal}
use Rattle.mq_journal.specs.declared.refusal.CheckpointRefusal.TheVariants as checkpoint
use Rattle.mq_desk_laws.specs.Groups.{GroupView}
use Rattle.mq_drive.specs.Steps.{PortFault}
use Rattle.mq_drive.specs.declared.port.Port.{Ghosts}
use Rattle.mq_journal.specs.Numbers.{Seat}
use Rattle.mq_queue_side.specs.declared.answers.Cause.{Cause}
use Rattle.mq_queue_side.specs.declared.answers.Cause.TheVariants as cause
use Rattle.mq_sessions.specs.Acts.{KeepsAll}
use Rattle.mq_sessions.specs.Attempts.{Begins, IsAreaFull, IsCut, IsTooLarge, Refuses}
use Rattle.mq_sessions.specs.Calls.{Call}
use Rattle.mq_sessions.specs.Executors.{CallView}
use Rattle.mq_sessions.specs.declared.answers.RefusalCause.{RefusalCause}
use Rattle.mq_sessions.specs.declared.answers.RefusalCause.TheVariants as refused

-- what a call answers where its checkpoint was refused
abbrev pub cause_of : CheckpointRefusal → RefusalCause
cause_of checkpoint.OutOfMemory = refused.OutOfMemory
cause_of (checkpoint.Drive why) = refused.Drive why

module _ {P E Req Rep D : Type 0} {G : Ghosts P} (state : P → PortState) (faults : P → List PortFault)
    (group : GroupView E) (calls : CallView E Req Rep D) where
  -- Why a group that was run on its pages is refused, with the number that it had drawn, and what that
  -- leaves.
  pub data IsTurnedDown (g : Geometry) (c : Call Req) (old new : Seat P E G) : RefusalCause → Option ℕ
      → Type 0 where
    memory : KeepsAll old new → IsTurnedDown g c old new refused.OutOfMemory None
    too_large : {count limit : ℕ} → IsTooLarge calls g c count limit old new
        → IsTurnedDown g c old new (refused.TooLarge count limit) None
    before : {why : Cause} → Refuses state faults group calls g c why old new
        → IsTurnedDown g c old new (refused.Drive why) None
    cut : {at : ℕ} → IsCut state faults group calls g c at old new
        → IsTurnedDown g c old new (refused.Drive cause.Off) (Some at)

  -- Why a call is refused that does not wait until its group is done, with the number that the group had
  -- drawn, and what that leaves: the group was turned down; or its plan did not fit the journal area, and the
  -- checkpoint was refused.
  pub data IsRefused (g : Geometry) (c : Call Req) (old new : Seat P E G) : RefusalCause → Option ℕ
      → Type 0 where
    turned_down : {why : RefusalCause} {drawn : Option ℕ} {from : Seat P E G}
        → Begins state faults group calls g c old from
        → IsTurnedDown g c from new why drawn → IsRefused g c old new why drawn
    no_room : (why : CheckpointRefusal) {between : Seat P E G}
        → IsAreaFull state faults group calls g c old between
        → HasRefused state faults group why between new → IsRefused g c old new (cause_of why) None
