-- What is settled stays settled.
use Rattle.std.proofs.Common.{◌≡◌, ◌⊎◌, ℕ, true, Bool, List, ◌∷◌, sym, subst, inl, inr, arith}
use Rattle.std.proofs.lemmas.Bool.{le-leb, leb-true}
use Rattle.mq_core.proofs.HistoryFronts.{DoneMore}
use Rattle.mq_ledger.specs.History.{AreNumbered}
use Rattle.mq_ledger.specs.State.{State, is_done}
use Rattle.mq_ledger.specs.declared.tx.Tx.{Tx}
use Rattle.mq_loose.proofs.Closures.{closure_more}
use Rattle.mq_loose_order.proofs.Closed.{closure_still}
use Rattle.mq_loose_order.specs.Dependence.{closure}
use Rattle.mq_loose_queues.specs.Commits.{HeadsStay}
use Rattle.mq_loose_queues.specs.Journal.{IsJournal}
use Rattle.mq_loose_queues.specs.Queues.{QueuesState, ports_of}

more_done : (starts : List ℕ) (v w : QueuesState) (h : List Tx) → HeadsStay v w → DoneMore (is_done starts (ports_of v)) (is_done starts (ports_of w)) h
more_done starts v w h heads = record {
  each = λ t ts at d. le-leb _ _ (let l = leb-true _ _ d in let up = heads t.queue in omega arith);
}

grown : (has : Tx → List Tx → Bool) (base : ℕ) (h later : List Tx) (n : ℕ) → AreNumbered base later → (later ≡ h) ⊎ ((t : Tx) × (later ≡ t ∷ h)) → closure has base h n ≡ true → closure has base later n ≡ true
grown has base h later n k (inl same) st = subst (λ (us : List Tx). closure has base us n ≡ true) (sym same) st
grown has base h later n k (inr (t, one)) st = subst (λ (us : List Tx). closure has base us n ≡ true) (sym one) (closure_still has base t h n (subst (λ (us : List Tx). AreNumbered base us) one k) st)

pub still_settled : (s : State) (h : List Tx) (v : QueuesState) (later : List Tx) (w : QueuesState) (n : ℕ) → IsJournal s later w → (later ≡ h) ⊎ ((t : Tx) × (later ≡ t ∷ h)) → HeadsStay v w → closure (is_done s.starts (ports_of v)) s.base h n ≡ true → closure (is_done s.starts (ports_of w)) s.base later n ≡ true
still_settled s h v later w n j grows heads st =
    closure_more (is_done s.starts (ports_of v)) (is_done s.starts (ports_of w)) s.base later n j.log.numbers (more_done s.starts v w later heads)
    (grown (is_done s.starts (ports_of v)) s.base h later n j.log.numbers grows st)
