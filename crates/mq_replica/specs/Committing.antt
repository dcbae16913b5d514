-- One transaction on a side that one thread owns: it is numbered, sent and drained.
use Rattle.std.specs.Prelude.{◌≡◌, ◌≤◌, ◌∷◌, ℕ, false, List, Result, Ok, Err}
use Rattle.mq_blocks.specs.Descriptor.{journal_form}
use Rattle.mq_core.specs.Events.{HasRoom}
use Rattle.mq_drive.specs.Steps.{PortFault}
use Rattle.mq_ledger.specs.History.{of_queue}
use Rattle.mq_ledger.specs.Items.{end_of}
use Rattle.mq_ledger.specs.KnownJournal.{KnownJournal, LogOk, MayDraw, draw_known}
use Rattle.mq_ledger.specs.declared.tx.Tx.{Tx}
use Rattle.mq_queue_side.specs.Commits.{Commit, commit_of_tx}
use Rattle.mq_queue_side.specs.Drained.{Rises}
use Rattle.mq_queue_side.specs.Side.{SideState, IsQueueSide, IsRung}
use Rattle.mq_queue_side.specs.Stored.{Row, rows_for}
use Rattle.mq_queue_side.specs.declared.answers.Cause.{Cause}
use Rattle.mq_queue_side.specs.declared.answers.Cause.TheVariants as cause
use Rattle.mq_replica.specs.declared.update.OfferRefusal.{OfferRefusal}
use Rattle.mq_replica.specs.declared.update.OfferRefusal.TheVariants as refusal

-- the transaction may come next on the side, on which all that was drawn is rung
pub record MayCommit (k : KnownJournal) (t : Tx) (s : SideState) (rows : List Row) : Type 0 where
  pub log : LogOk k
  pub form : k.entries.form ≡ journal_form
  pub may : MayDraw k t
  pub new : k.done t k.history ≡ false
  pub queue : t.queue ≡ s.queue
  pub room : HasRoom k.geometry (k.from t.queue) k.word (of_queue t.queue k.history) t s.port
  pub side : IsQueueSide k t.queue (of_queue t.queue k.history) s
  pub rung : IsRung k t.queue (of_queue t.queue k.history) s
  pub stored_are : rows ≡ rows_for (of_queue t.queue k.history)

-- what is known then: on success the transaction's entries all stand below the flushed head
abbrev pub IsCommitted : KnownJournal → Tx → SideState → Result ℕ Cause → Type 0
IsCommitted k t s (Ok n) =
    (end_of (k.from t.queue) (t ∷ of_queue t.queue k.history) ≤ s.port.head)
    × IsRung (draw_known t k) t.queue (t ∷ of_queue t.queue k.history) s
IsCommitted k t s (Err c) = Unit {0}

-- whatever is known, the side is then one of the history with the transaction
abbrev pub Commits : SideState → List Row → Commit → ℕ → Result ℕ Cause → SideState → List Row → Type 0
Commits old rows commit number result new rows_then =
    (k : KnownJournal) (t : Tx) → MayCommit k t old rows → t.number ≡ number → commit_of_tx t ≡ commit
    → IsQueueSide (draw_known t k) t.queue (t ∷ of_queue t.queue k.history) new
    × (rows_then ≡ rows_for (t ∷ of_queue t.queue k.history))
    × IsCommitted k t new result

-- an answer that isn't Ok is the power's or a command's, where the faults have risen
abbrev pub CommitCause : Result ℕ Cause → List PortFault → List PortFault → Type 0
CommitCause (Ok n) old new = new ≡ old
CommitCause (Err cause.Off) old new = Rises old new
CommitCause (Err (cause.Failed tx status)) old new = Rises old new
CommitCause (Err (cause.FailedHome block status)) old new = ⊥
CommitCause (Err (cause.Stopped tx w)) old new = ⊥

-- the refusal that tells it
abbrev pub refusal_by : Cause → OfferRefusal
refusal_by cause.Off = refusal.Off
refusal_by (cause.Failed tx status) = refusal.Failed status
refusal_by (cause.FailedHome block status) = refusal.Failed status
refusal_by (cause.Stopped tx w) = refusal.Off
