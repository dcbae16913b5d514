-- Another base, and other numbers whose contents are due, keep what holds of the log and of ports.
use Rattle.std.proofs.Common.{◌≡◌, ℕ, ◌+◌, ◌≤◌, true, Bool, List, [], ◌∷◌, ◌++◌, Some, sym, refl, subst, inl, inr, arith}
use Rattle.std.proofs.lemmas.Bool.{cases_lt}
use Rattle.mq_blocks.specs.Drive.{PortState}
use Rattle.mq_ledger.specs.History.{writes, upto, IsAt}
use Rattle.mq_ledger.specs.Items.{end_of, next, total, descriptor_blocks}
use Rattle.mq_ledger.specs.KnownJournal.{KnownJournal, LogOk, front}
use Rattle.mq_ledger.specs.Sides.{AreHome, SideOk}
use Rattle.mq_ledger.specs.declared.tx.Tx.{Tx}
use Rattle.mq_ledger.proofs.History.{upto-at, upto-past}
use Rattle.mq_ledger.proofs.Items.{next_upto, total_upto}
use Rattle.mq_ledger.proofs.HistoryQueues.{FromQueue-of}
use Rattle.mq_core.proofs.HistoryFronts.{done_below}
use Rattle.mq_core.proofs.KnownJournalGrowth.{side_moved, placed_front}

pub next_upto_more : (m n : ℕ) (txs : List Tx) → m ≤ n → next (upto m txs) ≤ next (upto n txs)
next_upto_more m n [] l = omega arith
next_upto_more m n (t ∷ txs) l = elim (cases_lt n t.number) [
  | inl past ↦ rw (upto-past n t txs past, upto-past m t txs (omega arith)) (next_upto_more m n txs l)
  | inr at ↦ rw (upto-at n t txs at) (next_upto m (t ∷ txs))
]

pub total_upto_more : (m n : ℕ) (txs : List Tx) → m ≤ n → total (upto m txs) ≤ total (upto n txs)
total_upto_more m n [] l = omega arith
total_upto_more m n (t ∷ txs) l = elim (cases_lt n t.number) [
  | inl past ↦ rw (upto-past n t txs past, upto-past m t txs (omega arith)) (total_upto_more m n txs l)
  | inr at ↦ rw (upto-at n t txs at) (total_upto m (t ∷ txs))
]

pub at_append : (t : Tx) (ts newer txs : List Tx) → IsAt t ts txs → IsAt t ts (newer ++ txs)
at_append t ts [] txs at = at
at_append t ts (u ∷ newer) txs at = inr (at_append t ts newer txs at)

-- what such a number covers stands below a count below which each of them ends
pub covered : (from h n : ℕ) (txs : List Tx) → from ≤ h → ((t : Tx) (ts : List Tx) → IsAt t ts txs → t.number ≤ n → end_of from ts + (writes t + descriptor_blocks t) ≤ h) → end_of from (upto n txs) ≤ h
covered from h n [] low each = omega arith
covered from h n (t ∷ txs) low each = elim (cases_lt n t.number) [
  | inl past ↦ rw (upto-past n t txs past) (covered from h n txs low (λ u vs at. each u vs (inr at)))
  | inr at ↦ (let e = each t txs (inl (refl, refl)) at in rw (upto-at n t txs at) (omega arith))
]

module _ (k : KnownJournal) (due : ℕ → ℕ → Bool) (word : ℕ) (log : LogOk k) (above : k.word ≤ word) (reached : word ≤ front k) where
  abbrev pub based_known : KnownJournal
  based_known = record k { due = due; word = word }

  pub log_based : ((x v : ℕ) → due x v ≡ true → v ≤ front k) → LogOk based_known
  log_based low = record {
    entries = log.entries;
    numbers = log.numbers;
    limit = log.limit;
    word_low = omega (arith, log.word_low);
    word_high = reached;
    due = low;
    each = λ t ts at. (let e = log.each t ts at in (e.0, placed_front k based_known t ts refl refl (omega arith) above e.1));
  }

  -- all of a port's transactions up to the base are done
  based_below : (q : ℕ) (txs : List Tx) (p : PortState) → SideOk k q txs p → end_of (k.from q) (upto word txs) ≤ p.head
  based_below q txs p s = covered (k.from q) p.head word txs (let o = s.order in o.head_low) (λ t ws at low.
      let f = FromQueue-of q t ws k.history (subst (λ vs. IsAt t ws vs) (sym s.part.1) (at_append t ws s.part.0 txs at)) in
      let done = s.done t f.ts f.at f.own (done_below k.base k.done t f.ts k.history log.numbers f.at (omega arith)) in
      subst (λ vs. end_of (k.from q) vs + (writes t + descriptor_blocks t) ≤ p.head) f.rest done)

  pub side_based : (q : ℕ) (txs : List Tx) (p : PortState) → SideOk k q txs p → AreHome based_known (Some q) p → SideOk based_known q txs p
  side_based q txs p s homes =
      side_moved k q txs p k.history k.done due word s (record {
        part = s.part;
        fits = omega (arith, s.area.fits, next_upto_more k.word word txs above);
        low = omega (arith, total_upto_more k.word word txs above);
        based = based_below q txs p s;
        done = s.done;
        change = λ x v l. l;
      }) homes
