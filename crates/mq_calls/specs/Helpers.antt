-- The chairs that belong to no session, and the drains that are made beside the calls of sessions.
use Rattle.std.specs.Prelude.{◌≡◌, ℕ, List, [], Result}
use Rattle.mq_blocks.specs.Drive.{PortState}
use Rattle.mq_drive.specs.Steps.{PortFault}
use Rattle.mq_drive.specs.declared.port.Port.{Ghosts}
use Rattle.mq_calls.specs.Group.{file_group}
use Rattle.mq_calls.specs.declared.entry.FileEntry.{FileEntry}
use Rattle.mq_journal.specs.Numbers.{Seat, Start}
use Rattle.mq_queue_side.specs.declared.answers.Cause.{Cause}
use Rattle.mq_sessions.specs.Settling as settling
use Rattle.mq_turns.specs.Desk.{fresh}

module _ {P : Type 0} {G : Ghosts P} where
  -- It holds no turn, and has drawn and read nothing.
  pub record IsAtEase (v : Seat P FileEntry G) : Type 0 where
    pub idle : v.held ≡ []
    pub drawn : v.drawn ≡ []
    pub read : v.read ≡ []

  -- a helper that has drained nothing, on the i-th chair of a desk that was opened so
  pub record IsNewHelper (o : Start P FileEntry G) (i : ℕ) (v : Seat P FileEntry G) : Type 0 where
    pub view_is : v ≡ fresh o i
    pub ease : IsAtEase v

module _ {P : Type 0} {G : Ghosts P} (state : P → PortState) (faults : P → List PortFault) where
  -- The side of the queue, as it lay on the desk, was drained and given back. The answer has its cause in the
  -- side.
  abbrev pub HasSettled : (q : ℕ) → Seat P FileEntry G → Seat P FileEntry G → Result ℕ Cause → Type 0
  HasSettled q old new answer = settling.HasSettled state faults file_group q old new answer
