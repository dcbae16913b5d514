-- The queues after a commit, whatever it answers.
use Rattle.std.proofs.Common.{◌≡◌, ℕ, List, ◌∷◌, length, Result, Ok, Err, sym, ap, subst}
use Rattle.mq_blocks.specs.Machine.{Writes}
use Rattle.mq_ledger.specs.State.{State}
use Rattle.mq_ledger.specs.declared.tx.Tx.{Tx}
use Rattle.mq_loose_queues.specs.Commits.{Commits, IsDrawn}
use Rattle.mq_loose_queues.specs.Journal.{IsJournal, loose_tx}
use Rattle.mq_loose_queues.specs.Queues.{QueuesState, next_number}
use Rattle.mq_loose_queues.specs.declared.refusal.LooseRefusal.{LooseRefusal}
use Rattle.mq_loose_queues.specs.declared.refusal.LooseRefusal.TheVariants.{Stopped, TooLarge, Area, Ring, OutOfMemory, Off}

-- they have a journal, and as many sides
pub record IsAJournalOf (old new : QueuesState) : Type 0 where
  pub journal : (s : State) (h : List Tx) → IsJournal s h old → (ts : List Tx) × IsJournal s ts new
  pub count : length new.sides ≡ length old.sides

drawn_on : (old new : QueuesState) (q : ℕ) (ws : Writes) (frees : List ℕ) → IsDrawn old q ws frees new → IsAJournalOf old new
drawn_on old new q ws frees d = record { journal = λ s h j. (loose_tx (next_number old) q ws frees ∷ h, d.journal s h j); count = d.count }

as_it_was : (old new : QueuesState) → new ≡ old → IsAJournalOf old new
as_it_was old new same = record { journal = λ s h j. (h, subst (λ (v : QueuesState). IsJournal s h v) (sym same) j); count = ap (λ (v : QueuesState). length v.sides) same }

pub committed : (old new : QueuesState) (q : ℕ) (ws : Writes) (frees : List ℕ) (r : Result ℕ LooseRefusal) → Commits old q ws frees r new → IsAJournalOf old new
committed old new q ws frees (Ok n) c = drawn_on old new q ws frees c.1
committed old new q ws frees (Err (Off tx)) c = drawn_on old new q ws frees c.1
committed old new q ws frees (Err (Stopped tx)) c = as_it_was old new c.1
committed old new q ws frees (Err (TooLarge count limit)) c = as_it_was old new c.1
committed old new q ws frees (Err Area) c = as_it_was old new c.1
committed old new q ws frees (Err Ring) c = as_it_was old new c.1
committed old new q ws frees (Err OutOfMemory) c = as_it_was old new c.1
