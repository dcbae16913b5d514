-- What is known to be done may grow by what a side's head has passed.
use Rattle.std.proofs.Common.{◌≡◌, ◌⊎◌, ℕ, ◌+◌, ◌≤◌, Bool, true, List, [], ◌∷◌, sym, ap, subst, ◌∙◌, inl, inr, arith}
use Rattle.mq_ledger.specs.History.{writes, of_queue, IsAt}
use Rattle.mq_ledger.specs.Items.{end_of, total, descriptor_blocks}
use Rattle.mq_ledger.specs.KnownJournal.{KnownJournal, LogOk}
use Rattle.mq_ledger.specs.declared.tx.Tx.{Tx}
use Rattle.mq_ledger.proofs.HistoryQueues.{IsFalling, IsFalling-of, at_own, at_end, number_falls}
use Rattle.mq_ledger.proofs.History.{at_numbered}
use Rattle.mq_core.proofs.KnownJournalGrowth.{side_more}
use Rattle.mq_core.proofs.HistoryBases.{at_append}
use Rattle.mq_queue_side.specs.Side.{SideState, IsQueueSide}

-- of two transactions of a queue the one with the greater number ends later
pub ends_rise : (q from : ℕ) (t u : Tx) (us vs ws : List Tx) → IsFalling q ws → IsAt t us ws → IsAt u vs ws → t.number ≤ u.number → end_of from us + (writes t + descriptor_blocks t) ≤ end_of from vs + (writes u + descriptor_blocks u)
ends_rise q from t u us vs [] f a b l = absurd a
ends_rise q from t u us vs (w ∷ ws) f (inl a) (inl b) l =
    let e : total (t ∷ us) ≡ total (u ∷ vs) = λ i. total ((sym a.0 ∙ b.0) i ∷ (sym a.1 ∙ b.1) i) in
    omega (arith, e)
ends_rise q from t u us vs (w ∷ ws) f (inl a) (inr b) l =
    let e : w.number ≡ t.number = ap (λ (v : Tx). v.number) a.0 in
    let low = number_falls q u vs ws f.2 b in
    let falls = f.1 in
    absurd (omega (arith, e, low, falls, l))
ends_rise q from t u us vs (w ∷ ws) f (inr a) (inl b) l =
    let e : total (w ∷ ws) ≡ total (u ∷ vs) = λ i. total (b.0 i ∷ b.1 i) in
    let low = at_end from t us ws a in
    omega (arith, e, low)
ends_rise q from t u us vs (w ∷ ws) f (inr a) (inr b) l = ends_rise q from t u us vs ws f.2 a b l

module _ (k : KnownJournal) (q : ℕ) (us : List Tx) (s : SideState) (log : LogOk k) (is : IsQueueSide k q us s) where
  -- what has a number up to the last that is done ends where that ends, or before
  done_below : (t : Tx) (ts : List Tx) → IsAt t ts k.history → t.queue ≡ q → t.number ≤ s.done → end_of (k.from q) (of_queue q ts) + (writes t + descriptor_blocks t) ≤ s.port.head
  done_below t ts at own low = elim is.done [
    | inl none ↦ absurd (let n = (at_numbered k.base t ts k.history log.numbers at).0 in omega (arith, n, none, low))
    | inr d ↦
        let part = is.side.part in
        let there : IsAt d.t d.ts (of_queue q k.history) = subst (λ ws. IsAt d.t d.ts ws) (sym part.1) (at_append d.t d.ts part.0 us d.at) in
        let number = d.number in
        let rise = ends_rise q (k.from q) t d.t (of_queue q ts) d.ts (of_queue q k.history) (IsFalling-of k.base q k.history log.numbers).0 (at_own q t ts k.history at own) there (omega (arith, low, number)) in
        let below = d.below in
        omega (arith, rise, below)
  ]

  -- what is known to be done may grow by numbers up to it
  pub claimed : (done : Tx → List Tx → Bool) → ((t : Tx) (ts : List Tx) → IsAt t ts k.history → k.done t ts ≡ true → done t ts ≡ true)
      → ((t : Tx) (ts : List Tx) → IsAt t ts k.history → t.queue ≡ q → done t ts ≡ true → (k.done t ts ≡ true) ⊎ (t.number ≤ s.done)) → IsQueueSide (record k { done = done }) q us s
  claimed done more which = record {
    geometry = is.geometry;
    queue = is.queue;
    entries = is.entries;
    side = side_more k done log (record { each = more }) q us s.port is.side (λ t ts at own d. elim (which t ts at own d) [
      | inl old ↦ is.side.done t ts at own old
      | inr low ↦ done_below t ts at own low
    ]);
    passed = is.passed;
    rung = is.rung;
    last = is.last;
    done = is.done;
    kept = is.kept;
  }
