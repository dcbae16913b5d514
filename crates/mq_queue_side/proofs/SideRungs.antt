-- The records of a ring, against the transactions of its queue.
use Rattle.std.proofs.Common.{◌≡◌, ℕ, ◌+◌, ◌-◌, ◌<◌, ◌≤◌, Bool, true, List, [], ◌∷◌, ◌++◌, sym, refl, ap, subst, ◌∙◌, inl, inr, arith}
use Rattle.std.proofs.lemmas.Bool.{cases_Bool, cases_lt}
use Rattle.mq_ledger.specs.History.{writes, IsAt}
use Rattle.mq_ledger.specs.Items.{Item, end_of, total, item_at, below, IsEnd, descriptor_blocks}
use Rattle.mq_ledger.specs.declared.tx.Tx.{Tx}
use Rattle.mq_ledger.proofs.Items.{below-at, below-past, item_at-before, item_at-in, item_at-below, item-number}
use Rattle.mq_ledger.proofs.HistoryQueues.{at_end, at_from_below}
use Rattle.mq_pmr.specs.Rungs.{AreEnds, last_end, last_leading, left_after}
use Rattle.mq_pmr.specs.declared.rungs.Rung.{Rung}
use Rattle.mq_pmr.proofs.RungsWalking.{ends_high}
use Rattle.mq_queue_side.specs.Side.{IsRungOf, IsPassedOf, AreRungsOf, IsBelow}

-- ---- ends

below_is : (from : ℕ) (t : Tx) (ts us : List Tx) → IsAt t ts us → below from (end_of from (t ∷ ts)) us ≡ t ∷ ts
below_is from t ts [] at = absurd at
below_is from t ts (u ∷ us) (inl same) =
    let e : u ∷ us ≡ t ∷ ts = λ i. same.0 i ∷ same.1 i in
    let l : total (u ∷ us) ≡ total (t ∷ ts) = ap total e in
    below-at from (end_of from (t ∷ ts)) u us (omega (arith, l)) ∙ e
below_is from t ts (u ∷ us) (inr deeper) =
    let l : end_of from ts + (writes t + descriptor_blocks t) ≤ end_of from us = at_end from t ts us deeper in
    below-past from (end_of from (t ∷ ts)) u us (omega (arith, l)) ∙ below_is from t ts us deeper

below_first : (from : ℕ) (us : List Tx) → below from from us ≡ []
below_first from [] = refl
below_first from (t ∷ us) = below-past from from t us (omega arith) ∙ below_first from us

pub rung_end : (from : ℕ) (us : List Tx) (r : Rung) → IsRungOf from us r → IsEnd from us r.end
rung_end from us r is = subst (λ (h : ℕ). IsEnd from us h) (sym is.end_is) (ap (λ ws. end_of from ws) (below_is from is.t is.ts us is.at))

pub passed_is_end : (from : ℕ) (us : List Tx) (r : Rung) → IsPassedOf from us r → IsEnd from us r.end
passed_is_end from us r (inl none) = subst (λ (h : ℕ). IsEnd from us h) (sym none.1) (let e : end_of from (below from from us) ≡ from + 0 = ap (λ ws. end_of from ws) (below_first from us) in omega (arith, e))
passed_is_end from us r (inr is) = rung_end from us r is

-- ---- one more transaction is drawn

abbrev pub rung_later : (from : ℕ) (t : Tx) (us : List Tx) (r : Rung) → IsRungOf from us r → IsRungOf from (t ∷ us) r
rung_later from t us r is = record { t = is.t; ts = is.ts; at = inr is.at; tx = is.tx; end_is = is.end_is }

pub rungs_later : (from : ℕ) (t : Tx) (us : List Tx) (low : ℕ) (rs : List Rung) → AreRungsOf from us low rs → AreRungsOf from (t ∷ us) low rs
rungs_later from t us low [] are = tt
rungs_later from t us low (r ∷ rs) are = (rung_later from t us r are.0, are.1, rungs_later from t us r.end rs are.2)

pub passed_later : (from : ℕ) (t : Tx) (us : List Tx) (r : Rung) → IsPassedOf from us r → IsPassedOf from (t ∷ us) r
passed_later from t us r (inl none) = inl none
passed_later from t us r (inr is) = inr (rung_later from t us r is)

-- ---- one more is rung

pub rungs_more : (from : ℕ) (us : List Tx) (low : ℕ) (rs : List Rung) (r : Rung) → AreRungsOf from us low rs → (is : IsRungOf from us r) → end_of from is.ts ≡ last_end low rs → AreRungsOf from us low (rs ++ r ∷ [])
rungs_more from us low [] r are is begins = (is, begins, tt)
rungs_more from us low (x ∷ xs) r are is begins = (are.0, are.1, rungs_more from us x.end xs r are.2 is begins)

pub last_more : (done : ℕ) (rs : List Rung) (r : Rung) → last_end done (rs ++ r ∷ []) ≡ r.end
last_more done [] r = refl
last_more done (x ∷ xs) r = last_more x.end xs r

-- ---- those that lead are passed

pub leading_passed : (from : ℕ) (us : List Tx) (passes : ℕ → Bool) (done : Rung) (rs : List Rung) → IsPassedOf from us done → AreRungsOf from us done.end rs → IsPassedOf from us (last_leading passes done rs)
leading_passed from us passes done [] is are = is
leading_passed from us passes done (r ∷ rs) is are = elim (cases_Bool (passes r.end)) [
  | inl e ↦ rw e (leading_passed from us passes r rs (inr are.0) are.2)
  | inr e ↦ rw e is
]

pub leading_left : (from : ℕ) (us : List Tx) (passes : ℕ → Bool) (done : Rung) (rs : List Rung) → AreRungsOf from us done.end rs → AreRungsOf from us (last_leading passes done rs).end (left_after passes rs)
leading_left from us passes done [] are = tt
leading_left from us passes done (r ∷ rs) are = elim (cases_Bool (passes r.end)) [
  | inl e ↦ rw e (leading_left from us passes r rs are.2)
  | inr e ↦ rw e are
]

pub leading_last : (passes : ℕ → Bool) (done : Rung) (rs : List Rung) → last_end (last_leading passes done rs).end (left_after passes rs) ≡ last_end done.end rs
leading_last passes done [] = refl
leading_last passes done (r ∷ rs) = elim (cases_Bool (passes r.end)) [
  | inl e ↦ rw e (leading_last passes r rs)
  | inr e ↦ rw e refl
]

pub leading_up : (passes : ℕ → Bool) (limit : ℕ) (done : Rung) (rs : List Rung) → AreEnds done.end limit rs → done.end ≤ (last_leading passes done rs).end
leading_up passes limit done [] ends = omega arith
leading_up passes limit done (r ∷ rs) ends = elim (cases_Bool (passes r.end)) [
  | inl e ↦ rw e (omega (arith, ends.0, leading_up passes limit r rs ends.1))
  | inr e ↦ rw e (omega arith)
]

pub leading_high : (passes : ℕ → Bool) (limit : ℕ) (done : Rung) (rs : List Rung) → AreEnds done.end limit rs → (last_leading passes done rs).end ≤ limit
leading_high passes limit done [] ends = ends
leading_high passes limit done (r ∷ rs) ends = elim (cases_Bool (passes r.end)) [
  | inl e ↦ rw e (leading_high passes limit r rs ends.1)
  | inr e ↦ rw e (ends_high done.end limit (r ∷ rs) ends)
]

-- all are passed
pub leading_all : (passes : ℕ → Bool) (done : Rung) (rs : List Rung) → ((h : ℕ) → passes h ≡ true) → (last_leading passes done rs).end ≡ last_end done.end rs
leading_all passes done [] all = refl
leading_all passes done (r ∷ rs) all = rw (all r.end) (leading_all passes r rs all)

-- ---- the transaction of a count

pub record HasCount (from : ℕ) (us : List Tx) (c : ℕ) : Type 0 where
  pub t : Tx
  pub ts : List Tx
  pub at : IsAt t ts us
  pub low : end_of from ts ≤ c
  pub high : c < end_of from (t ∷ ts)
  pub number : (item_at from us c).number ≡ t.number

pub count_in : (from c : ℕ) (us : List Tx) → from ≤ c → c < end_of from us → HasCount from us c
count_in from c [] low high = absurd (omega (arith, low, high))
count_in from c (t ∷ ts) low high = elim (cases_lt c (end_of from ts)) [
  | inl before ↦
      let s = count_in from c ts low before in
      record { t = s.t; ts = s.ts; at = inr s.at; low = s.low; high = s.high; number = ap (λ (i : Item). i.number) (item_at-before from t ts c before) ∙ s.number }
  | inr after ↦
      record {
        t = t;
        ts = ts;
        at = inl (refl, refl);
        low = after;
        high = high;
        number = ap (λ (i : Item). i.number) (item_at-in from t ts c after) ∙ item-number t ts (c - end_of from ts);
      }
]

-- where a count below an end stands, the whole transaction stands below this end
pub rung_number : (from c bell : ℕ) (us : List Tx) → IsEnd from us bell → from ≤ c → c < bell → IsBelow from us bell (item_at from us c).number
rung_number from c bell us is low high =
    let inside : c < end_of from (below from bell us) = omega (arith, is, high) in
    let s = count_in from c (below from bell us) low inside in
    let b = at_from_below from bell s.t s.ts us s.at in
    record {
      t = s.t;
      ts = s.ts;
      at = b.0;
      number = ap (λ (i : Item). i.number) (item_at-below from bell us c inside) ∙ s.number;
      below = omega (arith, b.1);
    }
