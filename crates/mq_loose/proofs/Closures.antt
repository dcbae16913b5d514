-- The closure of a test, by the front up to which all pass it and as more come to pass it.
use Rattle.std.proofs.Common.{◌≡◌, ℕ, ◌+◌, ◌≤◌, Bool, true, List, length, arith}
use Rattle.mq_ledger.specs.History.{AreNumbered, part_of}
use Rattle.mq_ledger.specs.declared.tx.Tx.{Tx}
use Rattle.mq_core.proofs.HistoryFronts.{DoneMore, done_below, part_le}
use Rattle.mq_loose_order.specs.Dependence.{closure}
use Rattle.mq_loose_order.proofs.Closed.{closure_more as closure_wider, closure_below}

pub closure_more : (old new : Tx → List Tx → Bool) (base : ℕ) (h : List Tx) (n : ℕ) → AreNumbered base h → DoneMore old new h → closure old base h n ≡ true → closure new base h n ≡ true
closure_more old new base h n k more e = closure_wider old new base h n k more.each e

-- all up to the front pass the test
pub closure_front : (has : Tx → List Tx → Bool) (base : ℕ) (h : List Tx) (n : ℕ) → AreNumbered base h → n ≤ base + length (part_of has h) → closure has base h n ≡ true
closure_front has base h n k l =
    let top = part_le has h in
    closure_below has base (base + length (part_of has h)) h n k (λ t ts at low. done_below base has t ts h k at low) (omega arith) l
