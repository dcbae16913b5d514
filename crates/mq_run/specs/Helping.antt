-- What those came to who served the notices of a queue, each by a drain of its side.
use Rattle.std.specs.Prelude.{ℕ, List, Result, IfErr}
use Rattle.mq_blocks.specs.Drive.{PortState}
use Rattle.mq_calls.specs.Acts.{GoesOn}
use Rattle.mq_calls.specs.Helpers.{HasSettled}
use Rattle.mq_drive.specs.Steps.{PortFault}
use Rattle.mq_drive.specs.declared.port.Port.{Ghosts}
use Rattle.mq_calls.specs.declared.entry.FileEntry.{FileEntry}
use Rattle.mq_journal.specs.Draining.{RefusesDrain}
use Rattle.mq_journal.specs.Numbers.{Seat}
use Rattle.mq_notices.specs.Serving.{Serves}
use Rattle.mq_queue_side.specs.declared.answers.Cause.{Cause}

module _ {P : Type 0} {G : Ghosts P} (state : P → PortState) (faults : P → List PortFault) where
  -- The side of the queue was taken, drained and given back. Whatever this came to, nobody is told of it.
  pub record IsServed (queue : ℕ) (old new : Seat P FileEntry G) : Type 0 where
    pub answer : Result ℕ Cause
    pub settled : HasSettled state faults queue old new answer
    pub refused : IfErr answer (λ c. RefusesDrain queue c old new)
    pub goes : GoesOn old new

  -- The notices with these numbers were served, one after another, each by a drain of the queue's side.
  abbrev pub AreServed : (queue : ℕ) → Seat P FileEntry G → List ℕ → Seat P FileEntry G → Type 0
  AreServed queue from ns to = Serves (λ n old new. IsServed queue old new) from ns to
