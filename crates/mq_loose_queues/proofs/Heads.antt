-- Flushed heads don't go back: a call keeps the side one of every journal of which it was one, and so of the one in
-- which all below the head is known to be done.
use Rattle.std.proofs.Common.{◌≡◌, ◌⊎◌, ℕ, ◌+◌, ◌≤◌, Bool, true, List, [], ◌∷◌, sym, refl, ap, ◌∙◌, inl, inr, arith, nat_le}
use Rattle.std.proofs.lemmas.Bool.{cases_lt, le-leb, leb-true, lt-leb}
use Rattle.mq_core.proofs.HistoryFronts.{DoneMore}
use Rattle.mq_core.proofs.KnownJournalGrowth.{log_more, side_more}
use Rattle.mq_ledger.specs.History.{of_queue, writes, IsAt}
use Rattle.mq_ledger.specs.Items.{below, descriptor_blocks, end_of}
use Rattle.mq_ledger.specs.KnownJournal.{KnownJournal, LogOk}
use Rattle.mq_ledger.specs.declared.tx.Tx.{Tx}
use Rattle.mq_ledger.proofs.HistoryQueues.{FromQueue-of}
use Rattle.mq_queue_side.specs.Side.{IsQueueSide, SideState}

-- the newest transaction whose entries all stand below a head, if there is one
pub record NewestBelow (from head : ℕ) (us : List Tx) : Type 0 where
  pub t : Tx
  pub ts : List Tx
  pub at : IsAt t ts us
  pub is : below from head us ≡ t ∷ ts
  pub low : end_of from (t ∷ ts) ≤ head

newest_below : (from head : ℕ) (us : List Tx) → (below from head us ≡ []) ⊎ NewestBelow from head us
newest_below from head [] = inl refl
newest_below from head (t ∷ ts) = elim (cases_lt head (end_of from (t ∷ ts))) [
  | inr here ↦ inr (record { t = t; ts = ts; at = inl (refl, refl); is = rw (le-leb (end_of from (t ∷ ts)) head here) refl; low = here })
  | inl past ↦ elim (newest_below from head ts) [
    | inl none ↦ inl (rw (lt-leb (end_of from (t ∷ ts)) head past) none)
    | inr r ↦ inr (record { t = r.t; ts = r.ts; at = inr r.at; is = rw (lt-leb (end_of from (t ∷ ts)) head past) r.is; low = r.low })
  ]
]

module _ (k : KnownJournal) (q : ℕ) (old new : SideState) (log : LogOk k) (none : (t : Tx) (ts : List Tx) → IsAt t ts k.history → k.done t ts ≡ true → ⊥) (side : IsQueueSide k q (of_queue q k.history) old) where
  abbrev us : List Tx
  us = of_queue q k.history

  abbrev head : ℕ
  head = old.port.head

  -- all that stands below the head is done
  abbrev done : Tx → List Tx → Bool
  done t ts = nat_le (end_of (k.from t.queue) (of_queue t.queue ts) + (writes t + descriptor_blocks t)) head

  more : DoneMore k.done done k.history
  more = record { each = λ t ts at d. absurd (none t ts at d) }

  abbrev pub passed : KnownJournal
  passed = record k { done = done }

  pub log_passed : LogOk passed
  log_passed = log_more k done log more

  pub side_passed : IsQueueSide passed q us old
  side_passed = record {
    geometry = side.geometry;
    queue = side.queue;
    entries = side.entries;
    side = side_more k done log more q us old.port side.side (λ t ts at own d.
        let l : end_of (k.from t.queue) (of_queue t.queue ts) + (writes t + descriptor_blocks t) ≤ head = leb-true _ _ d in
        let l' = rw own at l in l');
    passed = side.passed;
    rung = side.rung;
    last = side.last;
    done = side.done;
    kept = side.kept;
  }

  pub head_stays : IsQueueSide passed q us new → head ≤ new.port.head
  head_stays then = elim (newest_below (k.from q) head us) [
    | inl nothing ↦
        let is : end_of (k.from q) (below (k.from q) head us) ≡ head = side.side.ends.head in
        let first : end_of (k.from q) [] ≡ head = sym (ap (end_of (k.from q)) nothing) ∙ is in
        let low = then.side.order.head_low in
        omega (arith, first, low)
    | inr r ↦
        let is : end_of (k.from q) (below (k.from q) head us) ≡ head = side.side.ends.head in
        let last : end_of (k.from q) (r.t ∷ r.ts) ≡ head = sym (ap (end_of (k.from q)) r.is) ∙ is in
        let f = FromQueue-of q r.t r.ts k.history r.at in
        let mine : end_of (k.from r.t.queue) (of_queue r.t.queue f.ts) ≡ end_of (k.from q) r.ts = (λ i. end_of (k.from (f.own i)) (of_queue (f.own i) f.ts)) ∙ ap (end_of (k.from q)) f.rest in
        let low = r.low in
        let past = then.side.done r.t f.ts f.at f.own (le-leb _ _ (omega (arith, mine, low))) in
        let own : end_of (k.from q) (of_queue q f.ts) ≡ end_of (k.from q) r.ts = ap (end_of (k.from q)) f.rest in
        omega (arith, past, own, last)
  ]
