-- The steps by which a group is prepared on the side of its queue.
use Rattle.std.specs.Prelude.{◌≡◌, ◌⊎◌, ◌<◌, ◌≤◌, ℕ, List, Option, Some, None, Result, vec_len, vec_capacity}
use Rattle.mq_blocks.specs.Drive.{PortState}
use Rattle.mq_blocks.specs.Geometry.{area_of}
use Rattle.mq_desk_laws.specs.Groups.{GroupView}
use Rattle.mq_drive.specs.Steps.{PortFault}
use Rattle.mq_drive.specs.declared.port.Port.{Ghosts}
use Rattle.mq_journal.specs.Held.{IsDrainOf}
use Rattle.mq_journal.specs.Laws.{HaveSameParts}
use Rattle.mq_journal.specs.Numbers.{HoldsSide, Seat, Start}
use Rattle.mq_queue_side.specs.Commits.{commit_by}
use Rattle.mq_queue_side.specs.Stored.{FitIs, IsBounded, rows_of}
use Rattle.mq_queue_side.specs.declared.answers.Cause.{Cause}
use Rattle.mq_queue_side.specs.declared.answers.Cause.TheVariants.{Stopped}
use Rattle.mq_queue_side.specs.declared.answers.Fit.TheVariants.{Ring}
use Rattle.mq_queue_side.specs.declared.answers.Why.{Why}
use Rattle.mq_queue_side.specs.declared.side.QueueSide.{QueueSide}
use Rattle.mq_revoke.specs.Placed.{Placed}
use Rattle.mq_sessions.specs.Calls.{Call}
use Rattle.mq_sessions.specs.Executors.{CallView}
use Rattle.mq_sessions.specs.declared.committing.Ready.{Ready}
use Rattle.mq_sessions.specs.declared.reads.Reads.{Reads}

-- the refusal for a failure that is kept
abbrev pub cause_kept : Option (ℕ × Why) → Option Cause
cause_kept None = None
cause_kept (Some (tx, why)) = Some (Stopped tx why)

module _ {P E : Type 0} {G : Ghosts P} where
  -- it is the side of the same queue of the same drive, and stores the same entries
  pub record KeepsSide (old new : QueueSide P E G) : Type 0 where
    pub queue : new.pmr.queue ≡ old.pmr.queue
    pub geometry : new.pmr.geometry ≡ old.pmr.geometry
    pub stored : new.stored.items ≡ old.stored.items

module _ {P E : Type 0} {G : Ghosts P} (state : P → PortState) (faults : P → List PortFault) where
  -- The side is as it was; or its ring had too little room for what is placed so, which fits the journal area
  -- by this base, and it was drained.
  abbrev pub IsDrainedForRoom : (base : ℕ) → Placed → QueueSide P E G → QueueSide P E G
      → Type 0
  IsDrainedForRoom base plan old new =
      (new ≡ old)
      ⊎ (FitIs (area_of old.pmr.geometry) base (rows_of old.stored.items) (state old.pmr.port) plan Ring
      × ((answer : Result (Unit {0}) Cause) × IsDrainOf state faults old new answer))

  -- So it is by a base that the session has read. Of the side nothing has changed beside that but its room
  -- for entries.
  pub record IsMadeReady (plan : Placed) (v : Seat P E G)
      (old new : QueueSide P E G) : Type 0 where
    pub base : ℕ
    pub read : base ≤ v.reading.base
    pub between : QueueSide P E G
    pub drained : IsDrainedForRoom base plan old between
    pub same : HaveSameParts between new

module _ {P E : Type 0} {G : Ghosts P} (state : P → PortState) (faults : P → List PortFault) (group : GroupView E) where
  -- the session holds it as the side of its queue
  abbrev pub IsSideOf : Start P E G → QueueSide P E G → Seat P E G → Type 0
  IsSideOf o s v = HoldsSide state faults group o s.pmr.queue s v

module _ {P E Req Rep D : Type 0} {G : Ghosts P} (state : P → PortState) (calls : CallView E Req Rep D) where
  -- The commit of the group is prepared on the side as it is placed, and its entry is made.
  pub record IsEntryReady (c : Call Req) (done : D) (plan : Placed) (reads : Reads) (s : QueueSide P E G)
      (ready : Ready E) : Type 0 where
    pub is : calls.entry_for c done ready.entry
    pub placed : calls.placed ready.entry ≡ plan
    pub reads_are : calls.reads ready.entry ≡ reads
    pub prepared : ready.prepared ≡ commit_by plan (calls.writes done)
    pub reserved : vec_len s.stored < vec_capacity s.stored
    pub bounds : IsBounded (rows_of s.stored.items) (state s.pmr.port) plan
