-- A side that a session takes and keeps in hand from step to step.
use Rattle.std.specs.Prelude.{◌≡◌, ℕ, List, Result, Ok, Err}
use Rattle.mq_blocks.specs.Drive.{PortState}
use Rattle.mq_drive.specs.Steps.{PortFault}
use Rattle.mq_drive.specs.declared.port.Port.{Ghosts}
use Rattle.mq_desk_laws.specs.Groups.{GroupView}
use Rattle.mq_desk_laws.specs.Rule.{IsSide}
use Rattle.mq_queue_side.specs.Drained.{DrainCause, Drains}
use Rattle.mq_queue_side.specs.Side.{side_state}
use Rattle.mq_queue_side.specs.declared.answers.Cause.{Cause}
use Rattle.mq_queue_side.specs.declared.side.QueueSide.{QueueSide}
use Rattle.mq_turns.specs.Chairs.{holding}
use Rattle.mq_turns.specs.Desk.{Sees, slot_of}
use Rattle.mq_turns.specs.declared.turn.Turn.TheVariants.{Side}
use Rattle.mq_journal.specs.Numbers
use Rattle.mq_journal.specs.Numbers.{Seat, Shared, Start}

-- It is the side of the same queue of the same drive, and stores the same entries.
pub record SameSide {P E : Type 0} {G : Ghosts P} (old new : QueueSide P E G) : Type 0 where
  pub queue : new.pmr.queue ≡ old.pmr.queue
  pub geometry : new.pmr.geometry ≡ old.pmr.geometry
  pub stored : new.stored ≡ old.stored

-- what is answered of a drain, without the number up to which the queue is done
abbrev pub drain_answer : Result ℕ Cause → Result (Unit {0}) Cause
drain_answer (Ok done) = Ok tt
drain_answer (Err cause) = Err cause

module _ {P E : Type 0} {G : Ghosts P} (state : P → PortState) (faults : P → List PortFault)
    (group : GroupView E) where
  -- The session has taken the side's turn: by what was known then, the side is what the rule says. Nothing
  -- else of the session changes.
  pub record TakesSide (o : Start P E G) (q : ℕ) (s : QueueSide P E G) (old new : Seat P E G) : Type 0 where
    pub known : Shared P E G
    pub is : new ≡ holding (slot_of o (Side q)) known old
    pub sees : Sees (Numbers.machine state faults group) old known
    pub side : IsSide (Numbers.values state faults group) group q known s

module _ {P E : Type 0} {G : Ghosts P} (state : P → PortState) (faults : P → List PortFault) where
  -- A drain of the side came to this, and it was answered so.
  pub record IsDrainOf (old new : QueueSide P E G) (answer : Result (Unit {0}) Cause) : Type 0 where
    pub result : Result ℕ Cause
    pub drains : Drains (side_state state faults old) result (side_state state faults new)
    pub cause : DrainCause result (faults old.pmr.port) (faults new.pmr.port)
    pub is : answer ≡ drain_answer result
