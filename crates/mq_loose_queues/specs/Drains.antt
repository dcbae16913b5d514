-- A drain of one of the queues.
use Rattle.std.specs.Prelude.{◌≡◌, ◌≢◌, ℕ, List, length, OnOk, Result}
use Rattle.mq_ledger.specs.State.{State}
use Rattle.mq_ledger.specs.declared.tx.Tx.{Tx}
use Rattle.mq_queue_side.specs.Drained.{DrainCause, DrainMakes, Drains, IsWhole}
use Rattle.mq_queue_side.specs.declared.answers.Cause.{Cause}
use Rattle.mq_loose_queues.specs.Commits.{HeadsStay}
use Rattle.mq_loose_queues.specs.Journal.{IsJournal}
use Rattle.mq_loose_queues.specs.Queues.{QueuesState, at_queue}

-- Whatever the queues' journal was, it is the same then.
pub record IsDrainOf (old : QueuesState) (q : ℕ) (result : Result ℕ Cause) (new : QueuesState) : Type 0 where
  pub journal : (s : State) (h : List Tx) → IsJournal s h old → IsJournal s h new
  pub drains : Drains (at_queue old q).side result (at_queue new q).side
  pub makes : DrainMakes (at_queue old q).side result (at_queue new q).side
  pub cause : DrainCause result (at_queue old q).side.faults (at_queue new q).side.faults
  pub whole : OnOk result (IsWhole (at_queue old q).side (at_queue new q).side)
  pub root : new.root ≡ old.root
  pub root_faults : new.root_faults ≡ old.root_faults
  pub others : (r : ℕ) → r ≢ q → at_queue new r ≡ at_queue old r
  pub count : length new.sides ≡ length old.sides
  pub changes : new.changes ≡ old.changes
  pub rows : new.rows ≡ old.rows
  pub heads : HeadsStay old new
