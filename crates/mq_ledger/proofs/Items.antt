-- The entries of a queue by their counts: of which transaction they are, and their places.
use Rattle.std.proofs.Common.{◌≡◌, ◌⊎◌, ◌≢◌, ℕ, ◌+◌, ◌-◌, ◌<◌, ◌≤◌, ◌%◌, List, [], ◌∷◌, length, refl, ap, ◌∙◌, inl, inr, arith}
use Rattle.std.proofs.lemmas.Bool.{cases_lt, cases_eq, lt-ltb, le-ltb, le-leb, lt-leb, eq-eqb, ne_eqb}
use Rattle.mq_ledger.specs.History.{writes, upto, of_queue, IsAt}
use Rattle.mq_ledger.specs.Items.{Bytes, AtPlace, AtHome, write_at, item_at, item_of, copy_item, direct_item, descriptor_item, commit_item, total, end_of, next, below, further_blocks, descriptor_blocks}
use Rattle.mq_ledger.specs.declared.tx.Tx.{Tx}
use Rattle.mq_ledger.proofs.History.{upto-at, upto-past}
use Rattle.mq_blocks.proofs.DriveRemainders.{mod_apart}

pub below-at : (from h : ℕ) (t : Tx) (ts : List Tx) → from + total (t ∷ ts) ≤ h → below from h (t ∷ ts) ≡ t ∷ ts
below-at from h t ts l = rw (le-leb _ _ l) refl

pub below-past : (from h : ℕ) (t : Tx) (ts : List Tx) → h < from + total (t ∷ ts) → below from h (t ∷ ts) ≡ below from h ts
below-past from h t ts l = rw (lt-leb _ _ l) refl

pub total-below : (from h : ℕ) (ts : List Tx) → total (below from h ts) ≤ total ts
total-below from h [] = omega arith
total-below from h (t ∷ ts) =
    elim (cases_lt h (from + total (t ∷ ts))) [
      | inl less ↦ rw (below-past from h t ts less) (omega (arith, total-below from h ts))
      | inr at ↦ rw (below-at from h t ts at) (omega arith)
    ]

pub item_at-before : (from : ℕ) (t : Tx) (ts : List Tx) (c : ℕ) → c < from + total ts → item_at from (t ∷ ts) c ≡ item_at from ts c
item_at-before from t ts c l = rw (lt-ltb _ _ l) refl

pub item_at-in : (from : ℕ) (t : Tx) (ts : List Tx) (c : ℕ) → from + total ts ≤ c → item_at from (t ∷ ts) c ≡ item_of t ts (c - (from + total ts))
item_at-in from t ts c l = rw (le-ltb _ _ l) refl

-- a suffix has the same entries
pub item_at-below : (from h : ℕ) (ts : List Tx) (c : ℕ) → c < from + total (below from h ts) → item_at from ts c ≡ item_at from (below from h ts) c
item_at-below from h [] c l = refl
item_at-below from h (t ∷ ts) c l =
    elim (cases_lt h (from + total (t ∷ ts))) [
      | inl less ↦
          let m = rw (below-past from h t ts less) at l in
          let k : total (below from h ts) ≤ total ts = total-below from h ts in
          rw (below-past from h t ts less) (item_at-before from t ts c (omega arith) ∙ item_at-below from h ts c m)
      | inr at ↦ rw (below-at from h t ts at) refl
    ]

pub length-below_le : (from h : ℕ) (ts : List Tx) → length (below from h ts) ≤ length ts
length-below_le from h [] = omega arith
length-below_le from h (t ∷ ts) =
    elim (cases_lt h (from + total (t ∷ ts))) [
      | inl less ↦ rw (below-past from h t ts less) (omega (arith, length-below_le from h ts))
      | inr at ↦ rw (below-at from h t ts at) (omega arith)
    ]

pub length-below : (from h k : ℕ) (ts : List Tx) → h ≤ k → length (below from h ts) ≤ length (below from k ts)
length-below from h k [] l = omega arith
length-below from h k (t ∷ ts) l =
    elim (cases_lt k (from + total (t ∷ ts))) [
      | inl less ↦ rw (below-past from h t ts (omega arith), below-past from k t ts less) (length-below from h k ts l)
      | inr at ↦ rw (below-at from k t ts at) (length-below_le from h (t ∷ ts))
    ]

pub next-below : (from h : ℕ) (ts : List Tx) → next (below from h ts) ≤ next ts
next-below from h [] = omega arith
next-below from h (t ∷ ts) =
    elim (cases_lt h (from + total (t ∷ ts))) [
      | inl less ↦ rw (below-past from h t ts less) (omega (arith, next-below from h ts))
      | inr at ↦ rw (below-at from h t ts at) (omega arith)
    ]

pub next_upto : (n : ℕ) (txs : List Tx) → next (upto n txs) ≤ next txs
next_upto n [] = omega arith
next_upto n (t ∷ txs) =
    elim (cases_lt n t.number) [
      | inl past ↦ rw (upto-past n t txs past) (omega (arith, next_upto n txs))
      | inr at ↦ rw (upto-at n t txs at) (omega arith)
    ]

pub total_upto : (n : ℕ) (txs : List Tx) → total (upto n txs) ≤ total txs
total_upto n [] = omega arith
total_upto n (t ∷ txs) =
    elim (cases_lt n t.number) [
      | inl past ↦ rw (upto-past n t txs past) (omega (arith, total_upto n txs))
      | inr at ↦ rw (upto-at n t txs at) (omega arith)
    ]

pub of_queue-own : (q : ℕ) (t : Tx) (ts : List Tx) → t.queue ≡ q → of_queue q (t ∷ ts) ≡ t ∷ of_queue q ts
of_queue-own q t ts e = rw (eq-eqb _ _ e) refl

pub of_queue-other : (q : ℕ) (t : Tx) (ts : List Tx) → t.queue ≢ q → of_queue q (t ∷ ts) ≡ of_queue q ts
of_queue-other q t ts e = rw (ne_eqb _ _ e) refl

-- what the i-th entry of a transaction is
pub item-logged : (t : Tx) (txs : List Tx) (i : ℕ) → i < length t.logged → item_of t txs i ≡ copy_item t txs i
item-logged t txs i l = rw (lt-ltb _ _ l) refl

pub item-direct : (t : Tx) (txs : List Tx) (i : ℕ) → length t.logged ≤ i → i < writes t → item_of t txs i ≡ direct_item t (i - length t.logged)
item-direct t txs i l u = rw (le-ltb _ _ l, lt-ltb _ _ u) refl

pub item-descriptor : (t : Tx) (txs : List Tx) (i : ℕ) → writes t ≤ i → item_of t txs i ≡ descriptor_item t txs (i - writes t)
item-descriptor t txs i l = rw (le-ltb i (length t.logged) (omega arith), le-ltb i (writes t) l) refl

-- the last of its descriptor's blocks, and one before it
descriptor-last : (t : Tx) (txs : List Tx) → descriptor_item t txs (further_blocks t) ≡ commit_item t txs
descriptor-last t txs = rw (le-leb (further_blocks t) (further_blocks t) (omega arith), le-ltb (further_blocks t) (further_blocks t) (omega arith)) refl

pub item-commit : (t : Tx) (txs : List Tx) (i : ℕ) → i ≡ writes t + further_blocks t → item_of t txs i ≡ commit_item t txs
item-commit t txs i e =
    let at : i - writes t ≡ further_blocks t = omega arith in
    item-descriptor t txs i (omega arith) ∙ ap (descriptor_item t txs) at ∙ descriptor-last t txs

pub item-number : (t : Tx) (txs : List Tx) (i : ℕ) → (item_of t txs i).number ≡ t.number
item-number t txs i =
    elim (cases_lt i (length t.logged)) [
      | inl a ↦ rw (item-logged t txs i a) refl
      | inr a ↦ elim (cases_lt i (writes t)) [
        | inl b ↦ rw (item-direct t txs i a b) refl
        | inr b ↦ rw (item-descriptor t txs i b) refl
      ]
    ]

-- an entry with a place is a logged copy or a block of the descriptor
pub item-place : (t : Tx) (txs : List Tx) (i p : ℕ) → (item_of t txs i).target ≡ AtPlace p → ((i < length t.logged) × (p ≡ next txs + i)) ⊎ ((writes t ≤ i) × (p ≡ next txs + (length t.logged + (i - writes t))))
item-place t txs i p e =
    elim (cases_lt i (length t.logged)) [
      | inl a ↦ (let k = rw (item-logged t txs i a) at e in inl (a, inj k))
      | inr a ↦ elim (cases_lt i (writes t)) [
        | inl b ↦ absurd (let k = rw (item-direct t txs i a b) at e in apart k)
        | inr b ↦ (let k = rw (item-descriptor t txs i b) at e in inr (b, inj k))
      ]
    ]
  where
    inj : {m n : ℕ} → AtPlace m ≡ AtPlace n → n ≡ m
    inj k = cc

    apart : {m n : ℕ} → AtHome m ≡ AtPlace n → ⊥
    apart k = cc

pub record IsDirectItem (t : Tx) (txs : List Tx) (i x : ℕ) : Type 0 where
  pub low : length t.logged ≤ i
  pub high : i < writes t
  pub block : (write_at t.direct (i - length t.logged)).0 ≡ x
  pub content : (item_of t txs i).content ≡ Bytes (write_at t.direct (i - length t.logged)).1

-- an entry with a home block is a direct write
pub item-home : (t : Tx) (txs : List Tx) (i x : ℕ) → (item_of t txs i).target ≡ AtHome x → IsDirectItem t txs i x
item-home t txs i x e =
    elim (cases_lt i (length t.logged)) [
      | inl a ↦ absurd (let k = rw (item-logged t txs i a) at e in apart k)
      | inr a ↦ elim (cases_lt i (writes t)) [
        | inl b ↦
            let k = rw (item-direct t txs i a b) at e in
            let content : (item_of t txs i).content ≡ Bytes (write_at t.direct (i - length t.logged)).1 = rw (item-direct t txs i a b) refl in
            record { low = a; high = b; block = inj k; content = content }
        | inr b ↦ absurd (let k = rw (item-descriptor t txs i b) at e in apart k)
      ]
    ]
  where
    inj : {m n : ℕ} → AtHome m ≡ AtHome n → m ≡ n
    inj k = cc

    apart : {m n : ℕ} → AtPlace m ≡ AtHome n → ⊥
    apart k = cc

-- the transaction of a count
pub record Source (from q : ℕ) (h : List Tx) (c : ℕ) : Type 0 where
  pub t : Tx
  pub ts : List Tx
  pub at : IsAt t ts h
  pub own : t.queue ≡ q
  pub low : end_of from (of_queue q ts) ≤ c
  pub high : c < end_of from (of_queue q ts) + (writes t + descriptor_blocks t)
  pub is : item_at from (of_queue q h) c ≡ item_of t (of_queue q ts) (c - end_of from (of_queue q ts))

pub Source-of : (from q : ℕ) (h : List Tx) (c : ℕ) → from ≤ c → c < end_of from (of_queue q h) → Source from q h c
Source-of from q [] c l u = absurd (omega arith)
Source-of from q (t ∷ ts) c l u =
    elim (cases_eq t.queue q) [
      | inl own ↦
          let u' = rw (of_queue-own q t ts own) at u in
          elim (cases_lt c (end_of from (of_queue q ts))) [
            | inl before ↦
                let s = Source-of from q ts c l before in
                record { t = s.t; ts = s.ts; at = inr s.at; own = s.own; low = s.low; high = s.high; is = ap (λ txs. item_at from txs c) (of_queue-own q t ts own) ∙ item_at-before from t (of_queue q ts) c before ∙ s.is }
            | inr after ↦
                record { t = t; ts = ts; at = inl (refl, refl); own = own; low = after; high = omega arith; is = ap (λ txs. item_at from txs c) (of_queue-own q t ts own) ∙ item_at-in from t (of_queue q ts) c after }
          ]
      | inr other ↦
          let u' = rw (of_queue-other q t ts other) at u in
          let s = Source-of from q ts c l u' in
          record { t = s.t; ts = s.ts; at = inr s.at; own = s.own; low = s.low; high = s.high; is = ap (λ txs. item_at from txs c) (of_queue-other q t ts other) ∙ s.is }
    ]

-- the item at the i-th count of a transaction that stands in the history
pub item_of_at : (from q : ℕ) (t : Tx) (ts h : List Tx) (i : ℕ) → t.queue ≡ q → IsAt t ts h → i < writes t + descriptor_blocks t → (item_at from (of_queue q h) (end_of from (of_queue q ts) + i) ≡ item_of t (of_queue q ts) i) × (end_of from (of_queue q ts) + (writes t + descriptor_blocks t) ≤ end_of from (of_queue q h))
item_of_at from q t ts [] i own at l = absurd at
item_of_at from q t ts (u ∷ txs) i own (inl same) l =
    let e : of_queue q (u ∷ txs) ≡ t ∷ of_queue q ts = ap₂' same.0 same.1 ∙ of_queue-own q t ts own in
    let k : end_of from (of_queue q ts) + i - end_of from (of_queue q ts) ≡ i = omega arith in
    (ap (λ ws. item_at from ws (end_of from (of_queue q ts) + i)) e ∙ item_at-in from t (of_queue q ts) _ (omega arith) ∙ ap (item_of t (of_queue q ts)) k, rw e (omega arith))
  where
    ap₂' : u ≡ t → txs ≡ ts → of_queue q (u ∷ txs) ≡ of_queue q (t ∷ ts)
    ap₂' p r = cc
item_of_at from q t ts (u ∷ txs) i own (inr deeper) l =
    let k = item_of_at from q t ts txs i own deeper l in
    elim (cases_eq u.queue q) [
      | inl o ↦
          let e = of_queue-own q u txs o in
          let k1 = k.1 in
          (ap (λ ws. item_at from ws (end_of from (of_queue q ts) + i)) e ∙ item_at-before from u (of_queue q txs) _ (omega arith) ∙ k.0, rw e (omega arith))
      | inr o ↦ rw (of_queue-other q u txs o) k
    ]

-- ---- places rise with the counts

pub place_of_count : (from : ℕ) (t : Tx) (txs : List Tx) (c p : ℕ) → end_of from txs ≤ c → c < end_of from (t ∷ txs) → (item_at from (t ∷ txs) c).target ≡ AtPlace p → (next txs ≤ p) × (p < next (t ∷ txs))
place_of_count from t txs c p l u e =
    elim (item-place t txs (c - end_of from txs) p (rw (item_at-in from t txs c l) at e)) [
      | inl a ↦ (omega (arith, a.1), omega (arith, a.0, a.1))
      | inr b ↦ (omega (arith, b.1), omega (arith, b.0, b.1))
    ]

pub place_below : (from : ℕ) (txs : List Tx) (c p : ℕ) → from ≤ c → c < end_of from txs → (item_at from txs c).target ≡ AtPlace p → p < next txs
place_below from [] c p l u e = absurd (omega arith)
place_below from (t ∷ txs) c p l u e =
    elim (cases_lt c (end_of from txs)) [
      | inl before ↦ omega (arith, place_below from txs c p l before (rw (item_at-before from t txs c before) at e))
      | inr at ↦ (place_of_count from t txs c p at u e).1
    ]

pub places_rise : (from : ℕ) (txs : List Tx) (c d p r : ℕ) → from ≤ c → c < d → d < end_of from txs → (item_at from txs c).target ≡ AtPlace p → (item_at from txs d).target ≡ AtPlace r → p < r
places_rise from [] c d p r l m u e g = absurd (omega arith)
places_rise from (t ∷ txs) c d p r l m u e g =
    elim (cases_lt d (end_of from txs)) [
      | inl before ↦ places_rise from txs c d p r l m before (rw (item_at-before from t txs c (omega arith)) at e) (rw (item_at-before from t txs d before) at g)
      | inr at ↦
          elim (cases_lt c (end_of from txs)) [
            | inl less ↦ omega (arith, place_below from txs c p l less (rw (item_at-before from t txs c less) at e), (place_of_count from t txs d r at u g).0)
            | inr both ↦ in_one (item-place t txs _ p (rw (item_at-in from t txs c both) at e)) (item-place t txs _ r (rw (item_at-in from t txs d at) at g)) both
          ]
    ]
  where
    in_one : ((c - end_of from txs < length t.logged) × (p ≡ next txs + (c - end_of from txs))) ⊎ ((writes t ≤ c - end_of from txs) × (p ≡ next txs + (length t.logged + (c - end_of from txs - writes t))))
        → ((d - end_of from txs < length t.logged) × (r ≡ next txs + (d - end_of from txs))) ⊎ ((writes t ≤ d - end_of from txs) × (r ≡ next txs + (length t.logged + (d - end_of from txs - writes t)))) → end_of from txs ≤ c → p < r
    in_one (inl a) (inl b) both = omega (arith, a.1, b.1)
    in_one (inl a) (inr b) both = omega (arith, a.0, a.1, b.1)
    in_one (inr a) (inl b) both = absurd (omega (arith, a.0, b.0))
    in_one (inr a) (inr b) both = omega (arith, a.0, a.1, b.0, b.1)

-- places of the transactions above a number are not less those of the others
pub place_above : (from n : ℕ) (txs : List Tx) (c p : ℕ) → end_of from (upto n txs) ≤ c → c < end_of from txs → (item_at from txs c).target ≡ AtPlace p → next (upto n txs) ≤ p
place_above from n [] c p l u e = absurd (omega arith)
place_above from n (t ∷ txs) c p l u e =
    elim (cases_lt n t.number) [
      | inl past ↦
          let l' = rw (upto-past n t txs past) at l in
          rw (upto-past n t txs past) (elim (cases_lt c (end_of from txs)) [
            | inl before ↦ place_above from n txs c p l' before (rw (item_at-before from t txs c before) at e)
            | inr at ↦ (let k = (place_of_count from t txs c p at u e).0 in let m = next_upto n txs in omega arith)
          ])
      | inr at ↦ absurd (let l' = rw (upto-at n t txs at) at l in omega arith)
    ]

-- two entries above the flushed base have blocks of their own in the area
pub places_apart : (size fbase from : ℕ) (txs : List Tx) (c d p r : ℕ) → next txs ≤ next (upto fbase txs) + size → from ≤ c → end_of from (upto fbase txs) ≤ c → c < d → d < end_of from txs → (item_at from txs c).target ≡ AtPlace p → (item_at from txs d).target ≡ AtPlace r → p % size ≢ r % size
places_apart size fbase from txs c d p r fits f l m u e g =
    let less = place_below from txs d r (omega arith) u g in
    let rise = places_rise from txs c d p r f m u e g in
    let low = place_above from fbase txs c p l (omega arith) e in
    mod_apart size p r rise (omega arith)
