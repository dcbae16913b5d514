-- A queue's side is taken, drained and given back, and each refusal is answered.
use Rattle.std.specs.Prelude.{◌≡◌, ◌≤◌, ◌-◌, ◌^◌, ℕ, min, List, Result, Ok, Err, IfOk}
use Rattle.mq_blocks.specs.Drive.{PortState}
use Rattle.mq_drive.specs.Steps.{PortFault}
use Rattle.mq_drive.specs.declared.port.Port.{Ghosts}
use Rattle.mq_desk_laws.specs.Groups.{GroupView}
use Rattle.mq_desk_laws.specs.Rule.{IsSide}
use Rattle.mq_queue_side.specs.Drained.{DrainCause, Drains}
use Rattle.mq_queue_side.specs.Side.{side_state}
use Rattle.mq_queue_side.specs.declared.answers.Cause.{Cause}
use Rattle.mq_queue_side.specs.declared.side.QueueSide.{QueueSide}
use Rattle.mq_turns.specs.Desk.{Sees}
use Rattle.mq_turns.specs.Marks.{claim_of, queues_of, shown}
use Rattle.mq_turns.specs.Meaning.{claimed, newest}
use Rattle.mq_journal.specs.Draining.{IsPassed}
use Rattle.mq_journal.specs.Numbers
use Rattle.mq_journal.specs.Numbers.{Seat, Shared, Start}

module _ {P E : Type 0} {G : Ghosts P} (state : P → PortState) (faults : P → List PortFault)
    (group : GroupView E) where
  -- By what was known then, with the claim that all of the queue is done, the side is what the rule says;
  -- and the number is not above the newest.
  pub record ShowsDone (q n : ℕ) (s : QueueSide P E G) (K : Shared P E G) : Type 0 where
    pub side : IsSide (Numbers.values state faults group) group q
        (claimed (claim_of q (2 ^ 64 - 1) (newest K)) K) s
    pub drawn : n ≤ newest K

  -- A drain of this side came to this. Where all is done, the claim was made, and the side given back.
  pub record IsSettled (o : Start P E G) (s : QueueSide P E G) (old new : Seat P E G)
      (answer : Result ℕ Cause) : Type 0 where
    pub after : QueueSide P E G
    pub drains : Drains (side_state state faults s) answer (side_state state faults after)
    pub cause : DrainCause answer (faults s.pmr.port) (faults after.pmr.port)
    pub passed : IfOk answer (λ n. IsPassed state faults group o s.pmr.queue (2 ^ 64 - 1) old new)
    pub done : IfOk answer
        (λ n. (K : Shared P E G) → Sees (Numbers.machine state faults group) old K
        → ShowsDone s.pmr.queue n after K)

  -- All numbers of the queue up to n, and all others that were drawn on it, are claimed to be done, while the
  -- side is as it was left. Of the session, its sweep over the queues may have come to this one.
  pub record Settles (q n : ℕ) (after : QueueSide P E G) (old new : Seat P E G) : Type 0 where
    pub known : Shared P E G
    pub sees : Sees (Numbers.machine state faults group) old known
    pub shows : ShowsDone q n after known
    pub is : new
        ≡ record old {
          hand = 0;
          reading = shown (queues_of old.opening) q
              (min (2 ^ 64 - 1 - 1) (newest known)) old.reading;
        }

  -- The side, as it was taken by what was known then, was drained, and it was answered so.
  pub record WasSettled (q : ℕ) (old new : Seat P E G) (answer : Result ℕ Cause) : Type 0 where
    pub taken : Shared P E G
    pub sees : Sees (Numbers.machine state faults group) old taken
    pub side : QueueSide P E G
    pub stood : IsSide (Numbers.values state faults group) group q taken side
    pub after : QueueSide P E G
    pub drains : Drains (side_state state faults side) answer (side_state state faults after)
    pub cause : DrainCause answer (faults side.pmr.port) (faults after.pmr.port)
    pub settles : IfOk answer (λ n. Settles q n after old new)
