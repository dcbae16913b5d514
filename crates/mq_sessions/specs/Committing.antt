-- A group that is about to be drawn: its pages and the side of its queue are held, and its blocks are placed.
use Rattle.std.specs.Prelude.{◌<◌, ◌≡◌, ◌≤◌, ◌+◌, ℕ, List, ◌∷◌, map, None, vec_len, vec_capacity}
use Rattle.mq_blocks.specs.Drive.{PortState}
use Rattle.mq_blocks.specs.Geometry.{area_of}
use Rattle.mq_blocks.specs.declared.geometry.Geometry.{Geometry}
use Rattle.mq_desk_laws.specs.Groups.{GroupView}
use Rattle.mq_drive.specs.Steps.{PortFault}
use Rattle.mq_drive.specs.declared.port.Port.{Ghosts}
use Rattle.mq_journal.specs.Draining.{report_of}
use Rattle.mq_journal.specs.Machine.{journal}
use Rattle.mq_journal.specs.Numbers.{HasPlace, HoldsSide, MayCome, Seat, Shared, ShowsReport, Start, reported}
use Rattle.mq_pages.specs.Held.{Cells}
use Rattle.mq_pages.specs.declared.page.Write.{Write}
use Rattle.mq_queue_side.specs.Commits.{IsPlanOf, commit_of_tx}
use Rattle.mq_queue_side.specs.Stored.{FitIs, rows_of}
use Rattle.mq_queue_side.specs.declared.answers.Fit.TheVariants.{Area}
use Rattle.mq_queue_side.specs.declared.side.QueueSide.{QueueSide}
use Rattle.mq_revoke.specs.Guard.{placed_of}
use Rattle.mq_revoke.specs.Placed.{Placed}
use Rattle.mq_revoke.specs.Placing.{IsPlacement}
use Rattle.mq_turns.specs.Desk.{Follows, Sees, slot_of}
use Rattle.mq_turns.specs.Lists.{tick, times}
use Rattle.mq_turns.specs.declared.rule.Charge.{Charge}
use Rattle.mq_turns.specs.declared.rule.MarkAnswer.TheVariants.{Base, Front}
use Rattle.mq_turns.specs.declared.turn.Turn.TheVariants.{Side}
use Rattle.mq_sessions.specs.Acts.{IsCaused, KeepsAll}
use Rattle.mq_sessions.specs.Attempts.{IsAreaFull, IsCut, IsTooLarge, LacksArea, MeetsRefusal, Refuses}
use Rattle.mq_sessions.specs.Calls.{Call}
use Rattle.mq_sessions.specs.Drawn.{blocks_in}
use Rattle.mq_sessions.specs.Executors.{CallView}
use Rattle.mq_sessions.specs.Pages.{HoldsPages, IsSeen}
use Rattle.mq_sessions.specs.Plans.{planned_with}
use Rattle.mq_sessions.specs.declared.committing.Obstacle.{Obstacle}
use Rattle.mq_sessions.specs.declared.committing.Obstacle.TheVariants as obstacle
use Rattle.mq_sessions.specs.declared.committing.Miss.{Miss}
use Rattle.mq_sessions.specs.declared.committing.Miss.TheVariants as miss
use Rattle.mq_sessions.specs.declared.committing.Ready.{Ready}
use Rattle.mq_sessions.specs.declared.reads.Reads.{Reads as WordsRead}

-- the blocks that a group writes are placed by what was read, on the pages in these cells
abbrev pub IsPlacedOn : Geometry → (queue : ℕ) → WordsRead → Cells → List Write → Placed → Type 0
IsPlacedOn g queue reads cells writes plan =
    IsPlacement g queue reads.front reads.base (map (planned_with cells) writes) plan

module _ {P E : Type 0} {G : Ghosts P} where
  -- The session has read words and nothing more: what it holds, drew, read and reported is as before.
  pub record ReadsWords (old new : Seat P E G) : Type 0 where
    pub parts : new.parts ≡ old.parts
    pub opening : new.opening ≡ old.opening
    pub session : new.session ≡ old.session
    pub held : new.held ≡ old.held
    pub drawn : new.drawn ≡ old.drawn
    pub read : new.read ≡ old.read
    pub seen : old.seen ≤ new.seen
    pub done : old.reading.done ≤ new.reading.done
    pub charged : new.reading.charged ≡ old.reading.charged

  -- It has read a front and a base, in this order, and both hold from then on. The base is not below the one
  -- that it knew of.
  pub record HasRead (reads : WordsRead) (old new : Seat P E G) : Type 0 where
    pub words : ReadsWords old new
    pub answers : new.reading.answers ≡ Base reads.base ∷ Front reads.front ∷ old.reading.answers
    pub front : reads.front ≤ new.reading.done
    pub base : reads.base ≤ new.reading.base
    pub later : old.reading.base ≤ reads.base

  -- Of all but its turns and what it knows of words, this alone has changed: what it reported. What it
  -- knows of numbers has not fallen, and it was answered nothing more.
  pub record OnlyReports (reports : List Charge) (old new : Seat P E G) : Type 0 where
    pub parts : new.parts ≡ old.parts
    pub opening : new.opening ≡ old.opening
    pub session : new.session ≡ old.session
    pub drawn : new.drawn ≡ old.drawn
    pub read : new.read ≡ old.read
    pub seen : old.seen ≤ new.seen
    pub done : old.reading.done ≤ new.reading.done
    pub answers : new.reading.answers ≡ old.reading.answers
    pub charged : new.reading.charged ≡ reports

module _ {P E : Type 0} {G : Ghosts P} (state : P → PortState) (faults : P → List PortFault) (group : GroupView E) where
  -- It holds the pages of these cells and the side of its queue, and no other turn; and something may be
  -- known by now.
  pub record HoldsCommit (o : Start P E G) (q : ℕ) (cells : Cells) (s : QueueSide P E G)
      (v : Seat P E G) : Type 0 where
    pub pages : HoldsPages (journal state faults group) o cells v
    pub side : HoldsSide state faults group o q s v
    pub only : (k : ℕ) → times k v.held ≡ times k cells + tick (slot_of o (Side q)) k
    pub seen : IsSeen (journal state faults group) v

  -- Why the side of the queue has no room for what is placed so: by this base it does not fit the journal
  -- area; or the side shows what will be reported of its port, and had come to it in hand. No memory is
  -- taken.
  abbrev pub HasNoRoom : (queue base : ℕ) → Placed → QueueSide P E G → Seat P E G
      → Obstacle → Type 0
  HasNoRoom q base plan s v obstacle.Memory = ⊥
  HasNoRoom q base plan s v obstacle.Area =
      FitIs (area_of s.pmr.geometry) base (rows_of s.stored.items) (state s.pmr.port) plan Area
  HasNoRoom q base plan s v (obstacle.Drive cause) =
      ShowsReport state faults group q (report_of cause) s v
      × ((K : Shared P E G) → Sees (journal state faults group) v K → IsCaused state faults group K q cause)

  -- The side shows what will be reported of its port.
  abbrev pub ShowsObstacle : (queue : ℕ) → QueueSide P E G → Seat P E G → Obstacle → Type 0
  ShowsObstacle q s v obstacle.Memory = Unit {0}
  ShowsObstacle q s v obstacle.Area = Unit {0}
  ShowsObstacle q s v (obstacle.Drive cause) = ShowsReport state faults group q (report_of cause) s v

module _ {P E Req Rep D : Type 0} {G : Ghosts P} (state : P → PortState) (faults : P → List PortFault)
    (group : GroupView E) (calls : CallView E Req Rep D) where
  -- The commit is prepared, and the entry of the group may be drawn.
  pub record IsPrepared (o : Start P E G) (c : Call Req) (done : D) (plan : Placed) (old : Seat P E G)
      (s : QueueSide P E G) (v : Seat P E G) (ready : Ready E) : Type 0 where
    pub is : calls.entry_for c done ready.entry
    pub placed : calls.placed ready.entry ≡ plan
    pub answers : v.reading.answers
        ≡ Base (calls.reads ready.entry).base ∷ Front (calls.reads ready.entry).front ∷ old.reading.answers
    pub plan_is : (homes : ℕ) × IsPlanOf homes (blocks_in (calls.writes done)) plan
    pub may : MayCome state faults group o c.session ready.entry v
    pub follows : Follows (journal state faults group) ready.entry v
    pub tells : ready.prepared ≡ commit_of_tx (group.tx ready.entry)
    pub place : HasPlace state faults group s v (placed_of (group.tx ready.entry))
    pub reserved : vec_len s.stored < vec_capacity s.stored
    pub none : s.kept ≡ None

  -- Why the commit of the call is not prepared, and what stands behind that, by all that may be known by now:
  -- the plan of its group does not fit the journal area of the queue; or the side shows what will be reported
  -- of its port, and had come to it in hand, and the group was to be drawn.
  abbrev pub IsObstacle : Geometry → Call Req → (old : Seat P E G) → QueueSide P E G → Seat P E G → Obstacle
      → Type 0
  IsObstacle g c old s v obstacle.Memory = Unit {0}
  IsObstacle g c old s v obstacle.Area =
      (K : Shared P E G) → Sees (journal state faults group) v K → LacksArea state faults group calls g c K old v
  IsObstacle g c old s v (obstacle.Drive cause) =
      ShowsReport state faults group c.session (report_of cause) s v
      × ((K : Shared P E G) → Sees (journal state faults group) v K
      → MeetsRefusal state faults group calls g c K old cause)

  -- Why a group that was run on its pages was not done, and what that leaves.
  abbrev pub IsMissed : Geometry → Call Req → Seat P E G → Seat P E G → Miss → Type 0
  IsMissed g c old new miss.AreaFull = IsAreaFull state faults group calls g c old new
  IsMissed g c old new miss.Memory = KeepsAll old new
  IsMissed g c old new (miss.Large count limit) = IsTooLarge calls g c count limit old new
  IsMissed g c old new (miss.Refused cause) = Refuses state faults group calls g c cause old new
  IsMissed g c old new (miss.Cut at) = IsCut state faults group calls g c at old new

-- what is answered where a group is not drawn for this
abbrev pub miss_for : Obstacle → Miss
miss_for obstacle.Memory = miss.Memory
miss_for obstacle.Area = miss.AreaFull
miss_for (obstacle.Drive cause) = miss.Refused cause

-- what is reported where a group is not drawn for this
abbrev pub reports_for : ℕ → Obstacle → List Charge → List Charge
reports_for q obstacle.Memory charged = charged
reports_for q obstacle.Area charged = charged
reports_for q (obstacle.Drive cause) charged = reported q (report_of cause) ∷ charged
