use Rattle.std.proofs.Common.{◌≡◌, [], List}
use Rattle.mq_ledger.specs.State.{State}
use Rattle.mq_ledger.specs.declared.tx.Tx.{Tx}
use Rattle.mq_loose.specs.Guards.{settled}
use Rattle.mq_loose_queues.specs.Journal.{IsJournal, state_over}
use Rattle.mq_loose_text.specs.Meaning.{numbers_from}
use Rattle.mq_loose_run.specs.Lines.{queues_state}
use Rattle.mq_loose_run.proofs.run.settled_numbers.Given as goal

-- the settled ones of the numbers so far
abbrev pub invariant-loop-before : goal.invariant-loop-before
invariant-loop-before l = (s : State) (h : List Tx) → IsJournal s h (queues_state l.queues) → l.numbers.items ≡ numbers_from (settled (state_over s h [] (queues_state l.queues))) 1 l.before
