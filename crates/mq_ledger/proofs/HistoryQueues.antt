-- The history and the lists of its queues.
use Rattle.std.proofs.Common.{◌≡◌, ℕ, ◌+◌, ◌<◌, ◌≤◌, List, [], ◌∷◌, length, sym, refl, ap, ◌∙◌, inl, inr, arith}
use Rattle.std.proofs.lemmas.Bool.{cases_lt, cases_eq}
use Rattle.mq_ledger.specs.History.{writes, upto, of_queue, AreNumbered, IsAt}
use Rattle.mq_ledger.specs.Items.{total, end_of, next, below, number_before, descriptor_blocks}
use Rattle.mq_ledger.specs.declared.tx.Tx.{Tx}
use Rattle.mq_ledger.proofs.History.{upto-past}
use Rattle.mq_ledger.proofs.Items.{below-at, below-past, of_queue-own, of_queue-other, next_upto, total_upto}

-- of one queue, and the numbers fall
abbrev pub IsFalling : ℕ → List Tx → Type 0
IsFalling q [] = Unit {0}
IsFalling q (t ∷ ts) = (t.queue ≡ q) × (number_before ts < t.number) × IsFalling q ts

pub IsFalling-of : (base q : ℕ) (h : List Tx) → AreNumbered base h → IsFalling q (of_queue q h) × (number_before (of_queue q h) ≤ base + length h)
IsFalling-of base q [] n = (tt, omega arith)
IsFalling-of base q (t ∷ ts) n =
    let k = IsFalling-of base q ts n.1 in
    elim (cases_eq t.queue q) [
      | inl own ↦ rw (of_queue-own q t ts own) ((own, omega (arith, n.0, k.1), k.0), omega (arith, n.0))
      | inr other ↦ rw (of_queue-other q t ts other) (k.0, omega (arith, k.1))
    ]

pub IsFalling-below : (q from h : ℕ) (txs : List Tx) → IsFalling q txs → IsFalling q (below from h txs)
IsFalling-below q from h [] f = tt
IsFalling-below q from h (t ∷ txs) f =
    elim (cases_lt h (from + total (t ∷ txs))) [
      | inl less ↦ rw (below-past from h t txs less) (IsFalling-below q from h txs f.2)
      | inr at ↦ rw (below-at from h t txs at) f
    ]

pub at_own : (q : ℕ) (t : Tx) (ts h : List Tx) → IsAt t ts h → t.queue ≡ q → IsAt t (of_queue q ts) (of_queue q h)
at_own q t ts [] at own = absurd at
at_own q t ts (u ∷ txs) (inl same) own =
    let e : u.queue ≡ q = ap (λ (v : Tx). v.queue) same.0 ∙ own in
    rw (of_queue-own q u txs e) (inl (same.0, ap (of_queue q) same.1))
at_own q t ts (u ∷ txs) (inr deeper) own =
    elim (cases_eq u.queue q) [
      | inl o ↦ rw (of_queue-own q u txs o) (inr (at_own q t ts txs deeper own))
      | inr o ↦ rw (of_queue-other q u txs o) (at_own q t ts txs deeper own)
    ]

pub record FromQueue (q : ℕ) (t : Tx) (txs h : List Tx) : Type 0 where
  pub ts : List Tx
  pub at : IsAt t ts h
  pub own : t.queue ≡ q
  pub rest : of_queue q ts ≡ txs

pub FromQueue-of : (q : ℕ) (t : Tx) (txs h : List Tx) → IsAt t txs (of_queue q h) → FromQueue q t txs h
FromQueue-of q t txs [] at = absurd at
FromQueue-of q t txs (u ∷ ws) at =
    elim (cases_eq u.queue q) [
      | inl o ↦ (let k = rw (of_queue-own q u ws o) at at in elim k [
        | inl same ↦ record { ts = ws; at = inl (same.0, refl); own = ap (λ (v : Tx). v.queue) (sym same.0) ∙ o; rest = same.1 }
        | inr deeper ↦ (let r = FromQueue-of q t txs ws deeper in record { ts = r.ts; at = inr r.at; own = r.own; rest = r.rest })
      ])
      | inr o ↦ (let k = rw (of_queue-other q u ws o) at at in let r = FromQueue-of q t txs ws k in record { ts = r.ts; at = inr r.at; own = r.own; rest = r.rest })
    ]

pub at_end : (from : ℕ) (t : Tx) (txs ws : List Tx) → IsAt t txs ws → end_of from txs + (writes t + descriptor_blocks t) ≤ end_of from ws
at_end from t txs [] at = absurd at
at_end from t txs (u ∷ ws) (inl same) =
    let e : total (u ∷ ws) ≡ total (t ∷ txs) = go same.0 same.1 in
    omega (arith, e)
  where
    go : u ≡ t → ws ≡ txs → total (u ∷ ws) ≡ total (t ∷ txs)
    go p r = cc
at_end from t txs (u ∷ ws) (inr deeper) = omega (arith, at_end from t txs ws deeper)

pub at_next : (t : Tx) (txs ws : List Tx) → IsAt t txs ws → next txs + (length t.logged + descriptor_blocks t) ≤ next ws
at_next t txs [] at = absurd at
at_next t txs (w ∷ ws) (inl same) = rw (same.0, same.1) (omega arith)
at_next t txs (w ∷ ws) (inr deeper) = omega (arith, at_next t txs ws deeper)

pub at_in_below : (from h : ℕ) (t : Tx) (txs ws : List Tx) → IsAt t txs ws → end_of from txs + (writes t + descriptor_blocks t) ≤ h → IsAt t txs (below from h ws)
at_in_below from h t txs [] at l = absurd at
at_in_below from h t txs (u ∷ ws) (inl same) l =
    let k = at_end from t txs (u ∷ ws) (inl same) in
    let e : total (u ∷ ws) ≡ total (t ∷ txs) = go same.0 same.1 in
    rw (below-at from h u ws (omega (arith, e))) (inl same)
  where
    go : u ≡ t → ws ≡ txs → total (u ∷ ws) ≡ total (t ∷ txs)
    go p r = cc
at_in_below from h t txs (u ∷ ws) (inr deeper) l =
    elim (cases_lt h (from + total (u ∷ ws))) [
      | inl less ↦ rw (below-past from h u ws less) (at_in_below from h t txs ws deeper l)
      | inr at ↦ rw (below-at from h u ws at) (inr deeper)
    ]

pub at_from_below : (from h : ℕ) (t : Tx) (txs ws : List Tx) → IsAt t txs (below from h ws) → IsAt t txs ws × (end_of from txs + (writes t + descriptor_blocks t) ≤ h)
at_from_below from h t txs [] at = absurd at
at_from_below from h t txs (u ∷ ws) at =
    elim (cases_lt h (from + total (u ∷ ws))) [
      | inl less ↦ (let k = at_from_below from h t txs ws (rw (below-past from h u ws less) at at) in (inr k.0, k.1))
      | inr all ↦ (let k = rw (below-at from h u ws all) at at in (k, omega (arith, at_end from t txs (u ∷ ws) k, all)))
    ]

pub number_falls : (q : ℕ) (t : Tx) (txs ws : List Tx) → IsFalling q ws → IsAt t txs ws → t.number ≤ number_before ws
number_falls q t txs [] f at = absurd at
number_falls q t txs (u ∷ ws) f (inl same) = (let e : u.number ≡ t.number = ap (λ (v : Tx). v.number) same.0 in omega arith)
number_falls q t txs (u ∷ ws) f (inr deeper) = omega (arith, f.1, number_falls q t txs ws f.2 deeper)

-- what is above the number stands behind what is not
pub end_above : (q from n : ℕ) (t : Tx) (txs ws : List Tx) → IsFalling q ws → IsAt t txs ws → n < t.number → end_of from (upto n ws) ≤ end_of from txs
end_above q from n t txs [] f at l = absurd at
end_above q from n t txs (u ∷ ws) f (inl same) l =
    let e : u.number ≡ t.number = ap (λ (v : Tx). v.number) same.0 in
    rw (upto-past n u ws (omega arith), same.1) (omega (arith, total_upto n txs))
end_above q from n t txs (u ∷ ws) f (inr deeper) l =
    let k = number_falls q t txs ws f.2 deeper in
    rw (upto-past n u ws (omega (arith, f.1))) (end_above q from n t txs ws f.2 deeper l)

pub next_above : (q n : ℕ) (t : Tx) (txs ws : List Tx) → IsFalling q ws → IsAt t txs ws → n < t.number → next (upto n ws) ≤ next txs
next_above q n t txs [] f at l = absurd at
next_above q n t txs (u ∷ ws) f (inl same) l =
    let e : u.number ≡ t.number = ap (λ (v : Tx). v.number) same.0 in
    rw (upto-past n u ws (omega arith), same.1) (next_upto n txs)
next_above q n t txs (u ∷ ws) f (inr deeper) l =
    let k = number_falls q t txs ws f.2 deeper in
    rw (upto-past n u ws (omega (arith, f.1))) (next_above q n t txs ws f.2 deeper l)
