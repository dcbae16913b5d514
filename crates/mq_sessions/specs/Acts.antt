-- What the calls of a session leave of what the session knows, for groups of any kind.
use Rattle.std.specs.Prelude.{◌≡◌, ◌<◌, ◌≤◌, ℕ, Bool, true, false, List, Some, Err}
use Rattle.mq_blocks.specs.Drive.{PortState}
use Rattle.mq_desk_laws.specs.Groups.{GroupView}
use Rattle.mq_desk_laws.specs.Rule.{IsSide}
use Rattle.mq_drive.specs.Steps.{PortFault}
use Rattle.mq_drive.specs.declared.port.Port.{Ghosts}
use Rattle.mq_journal.specs.Numbers.{Seat, Shared, WasCut}
use Rattle.mq_journal.specs.Values.{side_values}
use Rattle.mq_queue_side.specs.Commits.{NumberedCommit}
use Rattle.mq_queue_side.specs.Drained.{DrainCause, Drains}
use Rattle.mq_queue_side.specs.Side.{side_state}
use Rattle.mq_queue_side.specs.declared.answers.Cause.{Cause}
use Rattle.mq_queue_side.specs.declared.answers.Cause.TheVariants.{Stopped}
use Rattle.mq_queue_side.specs.declared.answers.Why.{Why}
use Rattle.mq_queue_side.specs.declared.side.QueueSide.{QueueSide}

module _ {P E : Type 0} {G : Ghosts P} where
  -- ---- what a session does not know of its own group

  -- The session of this queue does not know this number of its own to be done: all numbers up to one below it
  -- may be known to be done, and its sweep over the queues, where it has passed its own, has not come to it.
  pub record IsUnderWay (q at : ℕ) (v : Seat P E G) : Type 0 where
    pub undone : v.reading.done < at
    pub unswept : q < v.reading.swept → v.reading.low < at

  -- Nothing was waited for after the group. If it drew the number, this is under way; and if not, what the
  -- session knows of words and reports is what it was when the group was run.
  abbrev pub WaitsForNone : (q at : ℕ) → (drew : Bool) → Seat P E G → Seat P E G → Type 0
  WaitsForNone q at true old new = IsUnderWay q at new
  WaitsForNone q at false old new = new.reading ≡ old.reading

  -- ---- what a session knows of numbers

  -- it never falls
  pub record GoesOn (old new : Seat P E G) : Type 0 where
    pub seen : old.seen ≤ new.seen
    pub done : old.reading.done ≤ new.reading.done

  -- ---- a group that was refused

  -- The session drew and read nothing.
  pub record Rests (old new : Seat P E G) : Type 0 where
    pub drawn : new.drawn ≡ old.drawn
    pub read : new.read ≡ old.read

  -- And it reported nothing.
  pub record KeepsAll (old new : Seat P E G) : Type 0 where
    pub rests : Rests old new
    pub charged : new.reading.charged ≡ old.reading.charged

module _ {P E : Type 0} {G : Ghosts P} (state : P → PortState) (faults : P → List PortFault) (group : GroupView E) where
  -- By what was known then, a side that the session held is what lies there; it had kept the failure that is
  -- named, or its drain came to this refusal.
  pub data IsCaused (K : Shared P E G) (q : ℕ) : Cause → Type 0 where
    kept : {tx : ℕ} {why : Why} (s : QueueSide P E G)
        → IsSide (side_values state faults) group q K s
        → s.kept ≡ Some (tx, why) → IsCaused K q (Stopped tx why)
    drained : {c : Cause} (s after : QueueSide P E G)
        → IsSide (side_values state faults) group q K s
        → Drains (side_state state faults s) (Err c) (side_state state faults after)
        → DrainCause (Err c) (faults s.pmr.port) (faults after.pmr.port) → IsCaused K q c

  -- The send of the number, which is above all that the session had seen, was cut on a side, whose port
  -- gained an `Off` by it.
  pub record WasCutAt (v : Seat P E G) (at : ℕ) : Type 0 where
    pub above : v.seen < at
    pub side : QueueSide P E G
    pub numbered : NumberedCommit
    pub number : numbered.number ≡ at
    pub cut : WasCut state faults group side numbered
