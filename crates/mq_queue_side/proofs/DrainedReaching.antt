-- How far a drain has come, by the history.
use Rattle.std.proofs.Common.{◌≡◌, ℕ, ◌<◌, ◌≤◌, Bool, true, false, List, [], ◌∷◌, ◌++◌, Some, sym, refl, ap, subst, ◌∙◌, inl, inr, arith}
use Rattle.std.specs.Prelude.{◌&&◌, Ok, Err}
use Rattle.std.proofs.lemmas.Bool.{cases_Bool, cases_lt, false≢true, le-leb}
use Rattle.mq_blocks.specs.Descriptor.{DescriptorForm}
use Rattle.mq_blocks.specs.Drive.{AreFrom}
use Rattle.mq_blocks.specs.declared.command.Command.{Command}
use Rattle.mq_blocks.specs.declared.geometry.Geometry.{Geometry}
use Rattle.mq_ledger.specs.History.{IsAt}
use Rattle.mq_ledger.specs.Items.{end_of, total, item_at, number_before}
use Rattle.mq_ledger.specs.KnownJournal.{KnownJournal, LogOk}
use Rattle.mq_ledger.specs.Sides.{AreOwn}
use Rattle.mq_ledger.specs.declared.tx.Tx.{Tx}
use Rattle.mq_ledger.proofs.HistoryQueues.{IsFalling, IsFalling-of, at_end, number_falls}
use Rattle.mq_pmr.specs.Rungs.{are_from, is_clear, last_end, left_after}
use Rattle.mq_pmr.specs.declared.rungs.Rung.{Rung}
use Rattle.mq_queue_side.specs.Drained.{Drains, IsDrained, IsWhole}
use Rattle.mq_queue_side.specs.Laws.{NamesTransaction}
use Rattle.mq_queue_side.specs.Side.{SideState, IsQueueSide, IsPassedOf, AreRungsOf, IsKept, IsKeptBy, IsBelow, AreFromTx, NewestBegins, IsRung}
use Rattle.mq_queue_side.specs.Staying.{Stays}
use Rattle.mq_queue_side.specs.declared.answers.Cause.{Cause}
use Rattle.mq_queue_side.specs.declared.answers.Cause.TheVariants.{Failed, FailedHome, Stopped}
use Rattle.mq_queue_side.specs.declared.answers.Cause.TheVariants as cause
use Rattle.mq_queue_side.specs.declared.answers.Why.{Why}
use Rattle.mq_queue_side.specs.declared.answers.Why.TheVariants.{Status, Off}
use Rattle.mq_queue_side.proofs.SideClaims.{ends_rise}
use Rattle.mq_queue_side.proofs.SideRungs.{leading_all, count_in}

-- ---- numbers and ends

falling_part : (q : ℕ) (newer us : List Tx) → IsFalling q (newer ++ us) → IsFalling q us
falling_part q [] us f = f
falling_part q (n ∷ ns) us f = falling_part q ns us f.2

-- the numbers of a side's transactions fall
falls : (k : KnownJournal) (q : ℕ) (us : List Tx) (s : SideState) → LogOk k → IsQueueSide k q us s → IsFalling q us
falls k q us s log is =
    let part = is.side.part in
    falling_part q part.0 us (subst (λ (ws : List Tx). IsFalling q ws) part.1 (IsFalling-of k.base q k.history log.numbers).0)

positive : (q : ℕ) (t : Tx) (ts us : List Tx) → IsFalling q us → IsAt t ts us → 0 < t.number
positive q t ts [] f at = absurd at
positive q t ts (u ∷ us) f (inl same) = (let e : u.number ≡ t.number = ap (λ (v : Tx). v.number) same.0 in let low = f.1 in omega (arith, e, low))
positive q t ts (u ∷ us) f (inr deeper) = positive q t ts us f.2 deeper

-- a transaction with a lower number ends where a later one begins, or before
ends_apart : (q from : ℕ) (t u : Tx) (ts vs us : List Tx) → IsFalling q us → IsAt t ts us → IsAt u vs us → u.number < t.number → end_of from (u ∷ vs) ≤ end_of from ts
ends_apart q from t u ts vs [] f a b less = absurd a
ends_apart q from t u ts vs (w ∷ ws) f (inl a) (inl b) less =
    let e : w.number ≡ t.number = ap (λ (v : Tx). v.number) a.0 in
    let d : w.number ≡ u.number = ap (λ (v : Tx). v.number) b.0 in
    absurd (omega (arith, e, d, less))
ends_apart q from t u ts vs (w ∷ ws) f (inl a) (inr b) less =
    let e : total ws ≡ total ts = ap total a.1 in
    let low = at_end from u vs ws b in
    omega (arith, e, low)
ends_apart q from t u ts vs (w ∷ ws) f (inr a) (inl b) less =
    let d : w.number ≡ u.number = ap (λ (v : Tx). v.number) b.0 in
    let low = number_falls q t ts ws f.2 a in
    let falls = f.1 in
    absurd (omega (arith, d, low, falls, less))
ends_apart q from t u ts vs (w ∷ ws) f (inr a) (inr b) less = ends_apart q from t u ts vs ws f.2 a b less

-- of two transactions the one that ends before or where the other does has no greater number
numbers_rise : (q from : ℕ) (t u : Tx) (ts vs us : List Tx) → IsFalling q us → IsAt t ts us → IsAt u vs us → end_of from (t ∷ ts) ≤ end_of from (u ∷ vs) → t.number ≤ u.number
numbers_rise q from t u ts vs us f a b low = elim (cases_lt u.number t.number) [
  | inl less ↦ (let apart = ends_apart q from t u ts vs us f a b less in absurd (omega (arith, apart, low)))
  | inr more ↦ more
]

-- ---- what is passed

-- what ends up to a passed transaction has no greater number
passed_number : (q from : ℕ) (t : Tx) (ts us : List Tx) (r : Rung) → IsFalling q us → IsPassedOf from us r → IsAt t ts us → end_of from (t ∷ ts) ≤ r.end → t.number ≤ r.tx
passed_number q from t ts us r f (inl none) at low = (let e = none.1 in absurd (omega (arith, e, low)))
passed_number q from t ts us r f (inr is) at low =
    let e = is.end_is in
    let rise = numbers_rise q from t is.t ts is.ts us f at is.at (omega (arith, e, low)) in
    let tx = is.tx in
    omega (arith, rise, tx)

-- where the last is passed, it is the one
last_passed : (from : ℕ) (us : List Tx) (r : Rung) → IsPassedOf from us r → r.end ≡ end_of from us → r.tx ≡ number_before us
last_passed from [] r (inl none) end = none.0
last_passed from [] r (inr is) end = absurd is.at
last_passed from (u ∷ us) r (inl none) end = (let e = none.1 in absurd (omega (arith, e, end)))
last_passed from (u ∷ us) r (inr is) end = elim is.at [
  | inl same ↦ is.tx ∙ sym (ap (λ (v : Tx). v.number) same.0)
  | inr deeper ↦ (let low = at_end from is.t is.ts us deeper in let e = is.end_is in absurd (omega (arith, low, e, end)))
]

-- ---- up to the head

pub below_head : (k : KnownJournal) (q : ℕ) (us : List Tx) (s : SideState) → LogOk k → IsQueueSide k q us s → (t : Tx) (ts : List Tx) → IsAt t ts us → t.number ≤ s.done → end_of (k.from q) (t ∷ ts) ≤ s.port.head
below_head k q us s log is t ts at low =
    let f = falls k q us s log is in
    elim is.done [
      | inl none ↦ (let some = positive q t ts us f at in absurd (omega (arith, some, none, low)))
      | inr d ↦
          let number = d.number in
          let rise = ends_rise q (k.from q) t d.t ts d.ts us f at d.at (omega (arith, low, number)) in
          let below = d.below in
          omega (arith, rise, below)
    ]

-- ---- at Ok

pub reaches : (k : KnownJournal) (q : ℕ) (us : List Tx) (old new : SideState) (n : ℕ) → LogOk k → IsQueueSide k q us old → IsRung k q us old → Drains old (Ok n) new → IsWhole old new → Stays old new → n ≡ number_before us
reaches k q us old new n log is rung d whole stays =
    let m = stays q k us log is in
    let drained : IsDrained old new = d.ends.4 in
    let end : new.passed.end ≡ end_of (k.from q) us = sym drained.head ∙ whole q k us log is ∙ d.doorbell ∙ rung in
    d.ends.2 ∙ drained.done ∙ last_passed (k.from q) us new.passed m.passed end

-- ---- before a failure

-- a failed command below an end
record IsEarly (from : ℕ) (us : List Tx) (low n end : ℕ) : Type 0 where
  pub count : ℕ
  pub above : low ≤ count
  pub early : count < end
  pub late : n ≤ (item_at from us count).number

early_failed : (form : DescriptorForm) (g : Geometry) (q from : ℕ) (us : List Tx) (low n end : ℕ) (cs : List Command) → AreOwn form g q from us cs → AreFrom low cs → AreFromTx n cs → are_from end cs ≡ false → IsEarly from us low n end
early_failed form g q from us low n end [] own above txs not = absurd (false≢true (sym not))
early_failed form g q from us low n end (c ∷ cs) own above txs not = elim (cases_lt c.count end) [
  | inl less ↦
      let e : c.tx ≡ (item_at from us c.count).number = ap (λ (d : Command). d.tx) own.0 in
      let l = txs.0 in
      record { count = c.count; above = above.0; early = less; late = omega (arith, e, l) }
  | inr more ↦ early_failed form g q from us low n end cs own.1 above.1 txs.1 (rest more)
]
  where
    rest : end ≤ c.count → are_from end cs ≡ false
    rest more = rw (le-leb end c.count more) at not

-- the first that is left doesn't pass
left_head : (passes : ℕ → Bool) (rs : List Rung) (r : Rung) (more : List Rung) → left_after passes rs ≡ r ∷ more → passes r.end ≡ false
left_head passes [] r more is = absurd (let none : ⊥ = cc in none)
left_head passes (x ∷ xs) r more is = elim (cases_Bool (passes x.end)) [
  | inl e ↦ left_head passes xs r more (rw e at is)
  | inr e ↦ (let same : x ∷ xs ≡ r ∷ more = rw e at is in let first : x ≡ r = cc in subst (λ (d : Rung). passes d.end ≡ false) first e)
]

module _ (k : KnownJournal) (q : ℕ) (us : List Tx) (old new : SideState) (log : LogOk k) (is : IsQueueSide k q us old) (stays : Stays old new) (d : IsDrained old new) (bell : new.port.doorbell ≡ old.port.doorbell) (t : Tx) (ts : List Tx) (at : IsAt t ts us) where
  m : IsQueueSide k q us new
  m = stays q k us log is

  f : IsFalling q us
  f = falls k q us old log is

  from : ℕ
  from = k.from q

  -- what ends up to what is passed is done
  done_at : end_of (k.from q) (t ∷ ts) ≤ new.passed.end → t.number ≤ new.done
  done_at low =
      let number = passed_number q (k.from q) t ts us new.passed f m.passed at low in
      let e = d.done in
      omega (arith, number, e)

  -- a send was cut: all before the newest is passed
  before_cut : (n : ℕ) → new.port.failed ≡ [] → NewestBegins (k.from q) us new.port.doorbell n → t.number < n → t.number ≤ new.done
  before_cut n none newest less =
      let clear : (h : ℕ) → is_clear new.port h ≡ true = λ h. λ i. are_from h (d.posted i) && are_from h (none i) in
      let end : new.passed.end ≡ new.port.doorbell = ap (λ (r : Rung). r.end) d.passed ∙ leading_all (is_clear new.port) old.passed old.rung clear ∙ is.last ∙ sym bell in
      done_at (go us at newest end)
    where
      go : (ws : List Tx) → IsAt t ts ws → NewestBegins (k.from q) ws new.port.doorbell n → new.passed.end ≡ new.port.doorbell → end_of (k.from q) (t ∷ ts) ≤ new.passed.end
      go [] there begins end = absurd there
      go (w ∷ ws) (inl same) begins end = (let e : w.number ≡ t.number = ap (λ (v : Tx). v.number) same.0 in let b = begins.0 in absurd (omega (arith, e, b, less)))
      go (w ∷ ws) (inr deeper) begins end = (let low = at_end (k.from q) t ts ws deeper in let b = begins.1 in omega (arith, low, b, end))

  -- a command failed: where a transaction is left, one of its commands or of an earlier one did
  left_by : (n : ℕ) → AreFromTx n new.port.failed → IsBelow (k.from q) us new.port.doorbell n → t.number < n → (rs : List Rung) → new.rung ≡ rs → AreRungsOf (k.from q) us new.passed.end rs → last_end new.passed.end rs ≡ new.port.doorbell → end_of (k.from q) (t ∷ ts) ≤ new.passed.end
  left_by n txs below less [] none are last =
      let number = below.number in
      let rise = ends_rise q (k.from q) t below.t ts below.ts us f at below.at (omega (arith, less, number)) in
      let end = below.below in
      omega (arith, rise, end, last)
  left_by n txs below less (r ∷ more) some are last =
      let not : is_clear new.port r.end ≡ false = left_head (is_clear new.port) old.rung r more (sym d.rung ∙ some) in
      let posted : are_from r.end new.port.posted ≡ true = ap (are_from r.end) d.posted in
      let failed : are_from r.end new.port.failed ≡ false = (λ i. sym posted i && are_from r.end new.port.failed) ∙ not in
      let c = m.side.commands in
      let o = m.side.order in
      let early = early_failed k.entries.form k.geometry q (k.from q) us new.port.stored_head n r.end new.port.failed c.failed c.failed_counts txs failed in
      let ir = are.0 in
      let high = at_end (k.from q) ir.t ir.ts us ir.at in
      let up = early.above in
      let low = early.early in
      let end_is = ir.end_is in
      let head_low = o.head_low in
      let stored = o.stored in
      let hc = count_in (k.from q) early.count us (omega (arith, head_low, stored, up)) (omega (arith, low, end_is, high)) in
      let late = early.late in
      let number = hc.number in
      let begins = hc.low in
      let before : t.number < hc.t.number = omega (arith, less, late, number) in
      let upto : hc.t.number ≤ ir.t.number = elim (cases_lt ir.t.number hc.t.number) [
        | inl after ↦ (let apart = ends_apart q (k.from q) hc.t ir.t hc.ts ir.ts us f hc.at ir.at after in absurd (omega (arith, apart, begins, low, end_is)))
        | inr fine ↦ fine
      ] in
      let apart = ends_apart q (k.from q) ir.t t ir.ts ts us f ir.at at (omega (arith, before, upto)) in
      let first = are.1 in
      omega (arith, apart, first)

  kept_before : (n : ℕ) (w : Why) → IsKeptBy (k.from q) us new.port.failed new.port.doorbell n w → t.number < n → t.number ≤ new.done
  kept_before n Off kept less = before_cut n kept.0 kept.1 less
  kept_before n (Status s) kept less = done_at (left_by n kept.2 kept.3 less new.rung refl m.rung m.last)

  pub named_before : (n : ℕ) (w : Why) → new.kept ≡ Some (n, w) → t.number < n → t.number ≤ new.done
  named_before n w is_kept less = kept_before n w (subst (λ o. IsKept (k.from q) us new.port.failed new.port.pending new.port.doorbell o) is_kept m.kept) less

pub done_before : (k : KnownJournal) (q : ℕ) (us : List Tx) (old new : SideState) (c : Cause) (n : ℕ) → LogOk k → IsQueueSide k q us old → Drains old (Err c) new → Stays old new → NamesTransaction c n → (t : Tx) (ts : List Tx) → IsAt t ts us → t.number < n → t.number ≤ new.done
done_before k q us old new (Failed tx status) n log is d stays names t ts at less = named_before k q us old new log is stays d.ends.3 d.doorbell t ts at tx (Status status) d.ends.1 (let e = names in omega (arith, e, less))
done_before k q us old new (Stopped tx w) n log is d stays names t ts at less = named_before k q us old new log is stays d.ends.3 d.doorbell t ts at tx w d.ends.1 (let e = names in omega (arith, e, less))
done_before k q us old new cause.Off n log is d stays names t ts at less = absurd names
done_before k q us old new (FailedHome block status) n log is d stays names t ts at less = absurd names
