-- The marks of a state: each queue's least number that isn't done.
use Rattle.std.proofs.Common.{◌≡◌, ◌⊎◌, ℕ, zero, suc, ◌+◌, ◌<◌, ◌≤◌, min, true, false, not, ◌&&◌, Bool, List, [], ◌∷◌, length, get_or, sym, refl, ap, subst, ◌∙◌, inl, inr, arith, eqb}
use Rattle.std.proofs.lemmas.Bool.{cases_Bool, cases_lt, eq-eqb, eqb-true, not-true, and_parts}
use Rattle.mq_ledger.specs.History.{IsAt}
use Rattle.mq_ledger.specs.State.{is_done}
use Rattle.mq_ledger.specs.declared.tx.Tx.{Tx}
use Rattle.mq_state_laws.specs.Parts.{Parts, IsUndone, least_marks, least_undone, marks_from, unmarked}

pub marks_length : (mark : ℕ → ℕ) (q n : ℕ) → length (marks_from mark q n) ≡ n
marks_length mark q zero = refl
marks_length mark q (suc n) = (let e = marks_length mark (q + 1) n in omega (arith, e))

pub marks_at : (mark : ℕ → ℕ) (q n i : ℕ) → i < n → get_or (marks_from mark q n) i 0 ≡ mark (q + i)
marks_at mark q zero i l = absurd (omega arith)
marks_at mark q (suc n) zero l = (let e : q ≡ q + 0 = omega arith in ap mark e)
marks_at mark q (suc n) (suc i) l = (let e : q + 1 + i ≡ q + suc i = omega arith in marks_at mark (q + 1) n i (omega arith) ∙ ap mark e)

pub least_low : (done : Tx → List Tx → Bool) (t : Tx) (ts h : List Tx) → IsAt t ts h → done t ts ≡ false → least_undone done t.queue h ≤ t.number
least_low done t ts [] at undone = absurd at
least_low done t ts (u ∷ txs) (inl same) undone =
    let e : (eqb u.queue t.queue && not (done u txs)) ≡ true = rw (eq-eqb u.queue t.queue (ap (λ (w : Tx). w.queue) same.0), same.0, same.1, undone) refl in
    let number : u.number ≡ t.number = ap (λ (w : Tx). w.number) same.0 in
    rw e (omega arith)
least_low done t ts (u ∷ txs) (inr deeper) undone =
    let rest = least_low done t ts txs deeper undone in
    elim (cases_Bool (eqb u.queue t.queue && not (done u txs))) [
      | inl e ↦ rw e (omega (arith, rest))
      | inr e ↦ rw e rest
    ]

least-step : (done : Tx → List Tx → Bool) (q : ℕ) (u : Tx) (txs : List Tx) (n : ℕ) → IsUndone done q n txs → IsUndone done q n (u ∷ txs)
least-step done q u txs n w = record { tx = w.tx; before = w.before; at = inr w.at; own = w.own; undone = w.undone; number = w.number }

-- it is the number of one that isn't done, or there is none
pub least_is : (done : Tx → List Tx → Bool) (q : ℕ) (h : List Tx) → (least_undone done q h ≡ unmarked) ⊎ IsUndone done q (least_undone done q h) h
least_is done q [] = inl refl
least_is done q (u ∷ txs) = elim (cases_Bool (eqb u.queue q && not (done u txs))) [
  | inr e ↦ rw e (elim (least_is done q txs) [ inl none ↦ inl none | inr w ↦ inr (least-step done q u txs _ w) ])
  | inl e ↦
      let p = and_parts (eqb u.queue q) (not (done u txs)) e in
      rw e (elim (cases_lt (least_undone done q txs) u.number) [
        | inl less ↦
            let is : min u.number (least_undone done q txs) ≡ least_undone done q txs = omega arith in
            rw is (elim (least_is done q txs) [ inl none ↦ inl none | inr w ↦ inr (least-step done q u txs _ w) ])
        | inr more ↦
            let is : min u.number (least_undone done q txs) ≡ u.number = omega arith in
            rw is (inr (record { tx = u; before = txs; at = inl (refl, refl); own = eqb-true _ _ p.0; undone = not-true (done u txs) p.1; number = refl }))
      ])
]

-- ---- the marks of the parts

pub mark_is : (p : Parts) (q : ℕ) → q < p.geometry.queues → get_or (least_marks p) q 0 ≡ least_undone (is_done p.starts p.ports) q p.history
mark_is p q own =
    let at = marks_at (λ r. least_undone (is_done p.starts p.ports) r p.history) 0 p.geometry.queues q own in
    let same : 0 + q ≡ q = omega arith in
    at ∙ ap (λ r. least_undone (is_done p.starts p.ports) r p.history) same

pub mark_undone : (p : Parts) (q : ℕ) → q < p.geometry.queues → (get_or (least_marks p) q 0 ≡ unmarked) ⊎ IsUndone (is_done p.starts p.ports) q (get_or (least_marks p) q 0) p.history
mark_undone p q own = subst (λ n. (n ≡ unmarked) ⊎ IsUndone (is_done p.starts p.ports) q n p.history) (sym (mark_is p q own)) (least_is (is_done p.starts p.ports) q p.history)

pub mark_least : (p : Parts) (t : Tx) (ts : List Tx) → t.queue < p.geometry.queues → IsAt t ts p.history → is_done p.starts p.ports t ts ≡ false → get_or (least_marks p) t.queue 0 ≤ t.number
mark_least p t ts own at undone = rw (mark_is p t.queue own) (least_low (is_done p.starts p.ports) t ts p.history at undone)
