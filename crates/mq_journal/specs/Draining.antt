-- A queue's side is taken, drained and given back.
use Rattle.std.specs.Prelude.{◌≡◌, ◌<◌, ◌≤◌, ◌-◌, ◌^◌, ℕ, min, nat_le, if◌then◌else◌, List, ◌∷◌, Option, Some, None, Result, Ok, Err, OnOk}
use Rattle.mq_blocks.specs.Drive.{PortState}
use Rattle.mq_drive.specs.Steps.{PortFault}
use Rattle.mq_drive.specs.declared.port.Port.{Ghosts}
use Rattle.mq_desk_laws.specs.Groups.{GroupView}
use Rattle.mq_desk_laws.specs.Rule.{IsSide}
use Rattle.mq_queue_side.specs.Drained.{DrainCause, Drains}
use Rattle.mq_queue_side.specs.Side.{side_state}
use Rattle.mq_queue_side.specs.declared.answers.Cause.{Cause}
use Rattle.mq_queue_side.specs.declared.answers.Cause.TheVariants as cause
use Rattle.mq_queue_side.specs.declared.answers.Why.{Why}
use Rattle.mq_queue_side.specs.declared.answers.Why.TheVariants as why
use Rattle.mq_queue_side.specs.declared.side.QueueSide.{QueueSide}
use Rattle.mq_turns.specs.Chairs.{giving}
use Rattle.mq_turns.specs.Desk.{Sees, slot_of}
use Rattle.mq_turns.specs.Marks.{claim_of, queues_of, shown}
use Rattle.mq_turns.specs.Meaning.{claimed, newest}
use Rattle.mq_turns.specs.Words.{after_clear}
use Rattle.mq_turns.specs.declared.rule.Report.{Report}
use Rattle.mq_turns.specs.declared.rule.Report.TheVariants as report
use Rattle.mq_turns.specs.declared.turn.Turn.TheVariants.{Side}
use Rattle.mq_journal.specs.Numbers
use Rattle.mq_journal.specs.Numbers.{Seat, Shared, Start, reported}

-- ---- what is answered

-- why a transaction stays undone: the status of a command of it, or none where its send was cut
abbrev pub status_of : Why → Option ℕ
status_of why.Off = None
status_of (why.Status status) = Some status

-- a refusal, as it is reported of the port
abbrev pub report_of : Cause → Report
report_of cause.Off = report.Off
report_of (cause.Failed tx status) = report.Failed tx status
report_of (cause.FailedHome block status) = report.FailedHome block status
report_of (cause.Stopped tx why) = report.Stopped tx (status_of why)

-- the number that a failure names, where it is a greater one
abbrev pub named_above : ℕ → Cause → Option ℕ
named_above at cause.Off = None
named_above at (cause.Failed tx status) = if nat_le tx at then None else Some tx
named_above at (cause.FailedHome block status) = None
named_above at (cause.Stopped tx why) = if nat_le tx at then None else Some tx

-- A failure of a number up to this one is answered, and one of a greater number is not.
abbrev pub answer_upto : ℕ → Result ℕ Cause → Result (Unit {0}) Cause
answer_upto at (Ok done) = Ok tt
answer_upto at (Err cause.Off) = Err cause.Off
answer_upto at (Err (cause.Failed tx status)) = if nat_le tx at then Err (cause.Failed tx status) else Ok tt
answer_upto at (Err (cause.FailedHome block status)) = Err (cause.FailedHome block status)
answer_upto at (Err (cause.Stopped tx why)) = if nat_le tx at then Err (cause.Stopped tx why) else Ok tt

-- the queue's mark after a drain: nothing of the queue is undone, or nothing below the number of its
-- failure
abbrev pub mark_after : Result ℕ Cause → ℕ
mark_after (Ok done) = 2 ^ 64 - 1
mark_after (Err cause.Off) = 0
mark_after (Err (cause.Failed tx status)) = tx
mark_after (Err (cause.FailedHome block status)) = 0
mark_after (Err (cause.Stopped tx why)) = tx

-- ---- what the session knows then

module _ {P E : Type 0} {G : Ghosts P} where
  -- The refusal was reported of the queue's port. Nothing else of what it knows has changed.
  abbrev pub RefusesDrain : ℕ → Cause → Seat P E G → Seat P E G → Type 0
  RefusesDrain q c old new =
      new
      ≡ record old {
        hand = 0;
        reading = record old.reading { charged = reported q (report_of c) ∷ old.reading.charged };
      }

module _ {P E : Type 0} {G : Ghosts P} (state : P → PortState) (faults : P → List PortFault)
    (group : GroupView E) where
  -- ---- one side in hand

  -- Whatever is known: with the claim that the queue's numbers below this one are done, the side is what
  -- the rule says.
  abbrev pub ShowsBelow : ℕ → ℕ → QueueSide P E G → Seat P E G → Type 0
  ShowsBelow q low s v =
      (K : Shared P E G) → Sees (Numbers.machine state faults group) v K
      → IsSide (Numbers.values state faults group) group q (claimed (claim_of q low (newest K)) K) s

  -- It was claimed, and the side was given back.
  pub record IsPassed (o : Start P E G) (q low : ℕ) (old new : Seat P E G) : Type 0 where
    pub known : Shared P E G
    pub sees : Sees (Numbers.machine state faults group) old known
    pub is : new ≡ giving (slot_of o (Side q)) (after_clear q low known old)

  -- A drain of this side came to this, and it was answered so: where nothing is answered, the mark says how
  -- far all is done.
  pub record IsAnswered (o : Start P E G) (at : ℕ) (s : QueueSide P E G) (old new : Seat P E G)
      (answer : Result (Unit {0}) Cause) : Type 0 where
    pub result : Result ℕ Cause
    pub after : QueueSide P E G
    pub drains : Drains (side_state state faults s) result (side_state state faults after)
    pub cause : DrainCause result (faults s.pmr.port) (faults after.pmr.port)
    pub is : answer ≡ answer_upto at result
    pub low : OnOk answer (at < mark_after result)
    pub passed : OnOk answer (IsPassed o s.pmr.queue (mark_after result) old new)

  -- ---- over the desk

  -- The session's sweep over the queues has come to this one, by this mark, and all of its numbers up to
  -- `at` are done. Nothing else of what it knows has changed.
  pub record Passes (q at mark : ℕ) (old new : Seat P E G) : Type 0 where
    pub known : Shared P E G
    pub sees : Sees (Numbers.machine state faults group) old known
    pub reach : at ≤ min (mark - 1) (newest known)
    pub is : new
        ≡ record old {
          hand = 0;
          reading = shown (queues_of old.opening) q (min (mark - 1) (newest known)) old.reading;
        }

  -- The side, as it was taken by what was known then, was drained, and it was answered so.
  pub record WasDrained (q at : ℕ) (old new : Seat P E G) (answer : Result (Unit {0}) Cause) : Type 0 where
    pub taken : Shared P E G
    pub sees : Sees (Numbers.machine state faults group) old taken
    pub side : QueueSide P E G
    pub stood : IsSide (Numbers.values state faults group) group q taken side
    pub result : Result ℕ Cause
    pub after : QueueSide P E G
    pub drains : Drains (side_state state faults side) result (side_state state faults after)
    pub cause : DrainCause result (faults side.pmr.port) (faults after.pmr.port)
    pub is : answer ≡ answer_upto at result
    pub passed : OnOk answer (Passes q at (mark_after result) old new)
