-- The drains that are made beside the calls of sessions.
use Rattle.std.specs.Prelude.{◌≡◌, ◌≢◌, ℕ, List, Option, Some, Result, Err}
use Rattle.mq_blocks.specs.Drive.{PortState}
use Rattle.mq_desk_laws.specs.Groups.{GroupView}
use Rattle.mq_drive.specs.Steps.{PortFault}
use Rattle.mq_drive.specs.declared.port.Port.{Ghosts}
use Rattle.mq_journal.specs.Numbers.{Seat}
use Rattle.mq_journal.specs.Settling.{WasSettled}
use Rattle.mq_queue_side.specs.Drained.{Rises}
use Rattle.mq_queue_side.specs.declared.answers.Cause.{Cause}
use Rattle.mq_queue_side.specs.declared.answers.Cause.TheVariants as cause
use Rattle.mq_queue_side.specs.declared.answers.Why.{Why}

module _ {P E : Type 0} {G : Ghosts P} where
  -- Nothing of who drains has changed but its hand and what it has read.
  abbrev pub OnlyReads : Seat P E G → Seat P E G → Type 0
  OnlyReads old new = new ≡ record old { hand = 0; reading = new.reading }

-- Why a drain of a side was answered so, by the failure that the side had kept, and by the faults of its port
-- before and after the drain. `Off` and `Failed` come only where there are more faults. A failure stops the
-- drain exactly where the side had kept it and there are no more faults.
pub record IsCausedBy (kept : Option (ℕ × Why)) (old new : List PortFault)
    (answer : Result ℕ Cause) : Type 0 where
  pub off : answer ≡ Err cause.Off → Rises old new
  pub failed : (tx status : ℕ) → answer ≡ Err (cause.Failed tx status) → Rises old new
  pub stopped : (tx : ℕ) (why : Why) → answer ≡ Err (cause.Stopped tx why)
      → (kept ≡ Some (tx, why)) × (new ≡ old)
  pub stops : (tx : ℕ) (why : Why) → kept ≡ Some (tx, why) → (Rises old new → ⊥)
      → answer ≡ Err (cause.Stopped tx why)
  pub not_home : (block status : ℕ) → answer ≢ Err (cause.FailedHome block status)

module _ {P E : Type 0} {G : Ghosts P} (state : P → PortState) (faults : P → List PortFault) (group : GroupView E) where
  -- The side of the queue, as it lay on the desk, was drained and given back; if all of it is done, its mark
  -- was cleared and its numbers up to the answer are claimed to be done. The answer has its cause in the side.
  pub record HasSettled (q : ℕ) (old new : Seat P E G) (answer : Result ℕ Cause) : Type 0 where
    pub was : WasSettled state faults group q old new answer
    pub caused : IsCausedBy was.side.kept (faults was.side.pmr.port) (faults was.after.pmr.port) answer
