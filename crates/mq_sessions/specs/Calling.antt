-- A call under way: what its session holds, and what it holds after it.
use Rattle.std.specs.Prelude.{◌≡◌, List, [], Option, Some, None}
use Rattle.mq_blocks.specs.Drive.{PortState}
use Rattle.mq_blocks.specs.declared.geometry.Geometry.{Geometry}
use Rattle.mq_desk_laws.specs.Groups.{GroupView}
use Rattle.mq_drive.specs.Steps.{PortFault}
use Rattle.mq_drive.specs.declared.port.Port.{Ghosts}
use Rattle.mq_journal.specs.Machine.{journal}
use Rattle.mq_journal.specs.Numbers.{Seat, Start}
use Rattle.mq_pages.specs.Held.{HeldCells}
use Rattle.mq_queue_side.specs.declared.answers.Cause.TheVariants as cause
use Rattle.mq_sessions.specs.Calls.{IsAsking}
use Rattle.mq_sessions.specs.Executors.{CallView}
use Rattle.mq_sessions.specs.Pages.{HoldsOnlyPages, IsSeen}
use Rattle.mq_sessions.specs.declared.answers.Refusal.{Refusal}
use Rattle.mq_sessions.specs.declared.answers.RefusalCause.TheVariants as refused
use Rattle.mq_sessions.specs.declared.asked.Asked.{Asked}
use Rattle.mq_sessions.specs.declared.committing.Miss.{Miss}
use Rattle.mq_sessions.specs.declared.committing.Miss.TheVariants as miss

module _ {P E : Type 0} {G : Ghosts P} where
  -- It is the same session, and holds no turn and no cell any more.
  pub record HasLeft (before after : HeldCells) (old new : Seat P E G) : Type 0 where
    pub parts : new.parts ≡ old.parts
    pub opening : new.opening ≡ old.opening
    pub session : new.session ≡ old.session
    pub held : new.held ≡ []
    pub none : after.cells ≡ []
    pub room : after.room ≡ before.room

module _ {P E Req Rep D : Type 0} {G : Ghosts P} (state : P → PortState) (faults : P → List PortFault)
    (group : GroupView E) (calls : CallView E Req Rep D) where
  -- It holds the pages on which the call's group is done, and no other turn.
  pub record IsHolding (o : Start P E G) (g : Geometry) (a : Asked Req) (cells : HeldCells) (v : Seat P E G)
      (done : D) : Type 0 where
    pub asks : IsAsking group g a v
    pub pages : HoldsOnlyPages (journal state faults group) o cells.cells v
    pub seen : IsSeen (journal state faults group) v
    pub done_on : calls.on_cells g a.queue cells.cells a.requests.now done

-- How a group that was not done is refused, with the number that it had drawn. None is refused because its
-- plan did not fit the journal area.
abbrev pub refusal_of : Miss → Option Refusal
refusal_of miss.AreaFull = None
refusal_of miss.Memory = Some (record { cause = refused.OutOfMemory; drawn = None })
refusal_of (miss.Large count limit) = Some (record { cause = refused.TooLarge count limit; drawn = None })
refusal_of (miss.Refused why) = Some (record { cause = refused.Drive why; drawn = None })
refusal_of (miss.Cut at) = Some (record { cause = refused.Drive cause.Off; drawn = Some at })
