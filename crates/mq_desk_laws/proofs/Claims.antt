-- What is done on each queue, one queue after another, is done up to a front.
use Rattle.std.proofs.Common.{◌≡◌, ℕ, ◌+◌, ◌≤◌, true, Bool, List, [], ◌∷◌, length, sym, refl, subst, inl, inr, arith}
use Rattle.std.proofs.lemmas.Bool.{cases_lt, and_from}
use Rattle.mq_ledger.specs.History.{part_of, all_of, AreNumbered, IsAt}
use Rattle.mq_ledger.specs.KnownJournal.{KnownJournal, LogOk, front}
use Rattle.mq_ledger.specs.declared.tx.Tx.{Tx}
use Rattle.mq_ledger.proofs.History.{at_most}
use Rattle.mq_core.proofs.HistoryFronts.{part-all}
use Rattle.mq_desk_laws.specs.Claims.{IsDoneTo, AreDoneTo}
use Rattle.mq_desk_laws.specs.Grown.{HasGrown, grown_to}
use Rattle.mq_desk_laws.proofs.HistoryNewer.{part_longer, at_older}

all_from : (w : Tx → List Tx → Bool) (h : List Tx) → ((t : Tx) (ts : List Tx) → IsAt t ts h → w t ts ≡ true) → all_of w h ≡ true
all_from w [] each = refl
all_from w (t ∷ ts) each = and_from (w t ts) (all_of w ts) (each t ts (inl (refl, refl))) (all_from w ts (λ u txs at. each u txs (inr at)))

pub part_covers : (base n : ℕ) (w : Tx → List Tx → Bool) (h : List Tx) → AreNumbered base h → n ≤ base + length h → ((t : Tx) (ts : List Tx) → IsAt t ts h → t.number ≤ n → w t ts ≡ true) → n ≤ base + length (part_of w h)
part_covers base n w [] numbers low each = omega arith
part_covers base n w (t ∷ ts) numbers low each = elim (cases_lt (base + length ts) n) [
  | inl whole ↦
      let all = all_from w (t ∷ ts) (λ u txs at. each u txs at (omega (arith, at_most base u txs (t ∷ ts) numbers at))) in
      rw (part-all w t ts all) low
  | inr less ↦ omega (arith, part_covers base n w ts numbers.1 less (λ u txs at. each u txs (inr at)), part_longer w (t ∷ []) ts)
]

-- the front is at or above a number up to which each queue is done
pub front_covers : (k : KnownJournal) (n : ℕ) → LogOk k → n ≤ k.base + length k.history → AreDoneTo k n k.geometry.queues → n ≤ front k
front_covers k n log low each =
    part_covers k.base n k.done k.history log.numbers low (λ t ts at below. (let form = (log.each t ts at).0 in each t.queue form.queue t ts at refl below))

-- a queue that was done up to a number stays so, if the number was not above the newest one
pub done_later : (k l : KnownJournal) (q n : ℕ) → LogOk l → HasGrown k l → n ≤ k.base + length k.history → IsDoneTo k q n → IsDoneTo l q n
done_later k l q n log g low each =
    let log' : LogOk (grown_to k g.newer g.done g.due g.word) = subst (λ m. LogOk m) g.is log in
    subst (λ m. IsDoneTo m q n) (sym g.is) (λ t ts at own below. g.more_done t ts (at_older k.base n t ts g.newer k.history log'.numbers low at below) (each t ts (at_older k.base n t ts g.newer k.history log'.numbers low at below) own below))
