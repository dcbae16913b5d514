-- The greatest closed set of the transactions that pass a test.
use Rattle.std.proofs.Common.{◌≡◌, ◌≢◌, ℕ, ◌+◌, ◌≤◌, ◌&&◌, leb, eqb, Bool, true, false, List, [], ◌∷◌, length, sym, refl, ap, subst, ◌∙◌, inl, inr, arith}
use Rattle.std.proofs.lemmas.Bool.{cases_eq, cases_Bool, le-leb, leb-true, eqb-true, eq-eqb, ne_eqb, and_parts, and_from, and_left, false≢true}
use Rattle.mq_blocks.specs.Journal.{is_among}
use Rattle.mq_ledger.specs.History.{AreNumbered, IsAt}
use Rattle.mq_ledger.specs.declared.tx.Tx.{Tx}
use Rattle.mq_ledger.proofs.History.{at_numbered, at_most}
use Rattle.mq_loose_order.specs.Dependence.{depends_on, deps_of, all_in, closure, kept, IsClosed}
use Rattle.mq_loose_order.proofs.Dependences.{deps_low}

-- ---- lists of numbers

pub all_at : (S : ℕ → Bool) (ns : List ℕ) (n : ℕ) → all_in S ns ≡ true → is_among n ns ≡ true → S n ≡ true
all_at S [] n e a = absurd (false≢true a)
all_at S (m ∷ ns) n e a =
    let p = and_parts (S m) (all_in S ns) e in
    elim (cases_Bool (eqb m n)) [
      | inl same ↦ subst (λ z. S z ≡ true) (eqb-true _ _ same) p.0
      | inr other ↦ all_at S ns n p.1 (rw other at a)
    ]

pub all_from : (S : ℕ → Bool) (ns : List ℕ) → ((n : ℕ) → is_among n ns ≡ true → S n ≡ true) → all_in S ns ≡ true
all_from S [] each = refl
all_from S (m ∷ ns) each =
    and_from (S m) (all_in S ns) (each m (rw (eq-eqb m m refl) refl)) (all_from S ns (λ n a. each n (elim (cases_Bool (eqb m n)) [
      | inl same ↦ rw same refl
      | inr other ↦ rw other a
    ])))

-- ---- the closure, number by number

pub closure-own : (has : Tx → List Tx → Bool) (base : ℕ) (t : Tx) (ts : List Tx) → closure has base (t ∷ ts) t.number ≡ (has t ts && all_in (λ m. closure has base ts m) (depends_on base t ts))
closure-own has base t ts = rw (eq-eqb t.number t.number refl) refl

pub closure-other : (has : Tx → List Tx → Bool) (base : ℕ) (t : Tx) (ts : List Tx) (n : ℕ) → n ≢ t.number → closure has base (t ∷ ts) n ≡ closure has base ts n
closure-other has base t ts n other = rw (ne_eqb n t.number other) refl

pub closure-low : (has : Tx → List Tx → Bool) (base : ℕ) (h : List Tx) (n : ℕ) → AreNumbered base h → n ≤ base → closure has base h n ≡ true
closure-low has base [] n k l = le-leb n base l
closure-low has base (t ∷ ts) n k l =
    let other : n ≢ t.number = omega (arith, k.0) in
    closure-other has base t ts n other ∙ closure-low has base ts n k.1 l

pub closure-high : (has : Tx → List Tx → Bool) (base : ℕ) (h : List Tx) (n : ℕ) → AreNumbered base h → closure has base h n ≡ true → n ≤ base + length h
closure-high has base [] n k e = (let l : n ≤ base = leb-true n base e in omega arith)
closure-high has base (t ∷ ts) n k e = elim (cases_eq n t.number) [
  | inl same ↦ omega (arith, k.0)
  | inr other ↦ (let r = closure-high has base ts n k.1 (sym (closure-other has base t ts n other) ∙ e) in omega (arith, r))
]

-- older transactions don't depend on newer ones
pub closure-at : (has : Tx → List Tx → Bool) (base : ℕ) (t : Tx) (ts h : List Tx) (n : ℕ) → AreNumbered base h → IsAt t ts h → n ≤ base + length (t ∷ ts) → closure has base h n ≡ closure has base (t ∷ ts) n
closure-at has base t ts [] n k at l = absurd at
closure-at has base t ts (u ∷ us) n k (inl same) l = λ i. closure has base (same.0 i ∷ same.1 i) n
closure-at has base t ts (u ∷ us) n k (inr deeper) l =
    let m = at_most base t ts us k.1 deeper in
    let r = (at_numbered base t ts us k.1 deeper).0 in
    let other : n ≢ u.number = omega (arith, k.0, m, r) in
    closure-other has base u us n other ∙ closure-at has base t ts us n k.1 deeper l

pub closure_of : (has : Tx → List Tx → Bool) (base : ℕ) (t : Tx) (ts h : List Tx) → AreNumbered base h → IsAt t ts h → closure has base h t.number ≡ true → (has t ts ≡ true) × (all_in (λ m. closure has base ts m) (depends_on base t ts) ≡ true)
closure_of has base t ts h k at e =
    let r = (at_numbered base t ts h k at).0 in
    let same = closure-at has base t ts h t.number k at (omega (arith, r)) in
    and_parts (has t ts) (all_in (λ m. closure has base ts m) (depends_on base t ts)) (sym (closure-own has base t ts) ∙ (sym same ∙ e))

-- ---- it is the greatest closed set

pub closure_closed : (has : Tx → List Tx → Bool) (base : ℕ) (h : List Tx) → AreNumbered base h → IsClosed base h (λ n. closure has base h n)
closure_closed has base h k = record {
  each = λ t ts n at e a.
      let p = closure_of has base t ts h k at e in
      let m = at_numbered base t ts h k at in
      let l = deps_low base t ts n m.1 a in
      let other : n ≢ t.number = omega (arith, l.1, m.0) in
      closure-at has base t ts h n k at (omega (arith, l.1)) ∙ (closure-other has base t ts n other ∙ all_at (λ m. closure has base ts m) (depends_on base t ts) n p.1 a);
}

pub closure_greatest : (has : Tx → List Tx → Bool) (base : ℕ) (h : List Tx) (S : ℕ → Bool) → AreNumbered base h → IsClosed base h S → ((t : Tx) (ts : List Tx) → IsAt t ts h → S t.number ≡ true → has t ts ≡ true) → (n : ℕ) → S n ≡ true → n ≤ base + length h → closure has base h n ≡ true
closure_greatest has base [] S k c w n e l = le-leb n base (omega arith)
closure_greatest has base (t ∷ ts) S k c w n e l =
    let rest : (m : ℕ) → S m ≡ true → m ≤ base + length ts → closure has base ts m ≡ true = λ m em lm. closure_greatest has base ts S k.1 (record { each = λ u us d at. c.each u us d (inr at) }) (λ u us at. w u us (inr at)) m em lm in
    elim (cases_eq n t.number) [
      | inl same ↦
          let et : S t.number ≡ true = subst (λ z. S z ≡ true) same e in
          let a : all_in (λ m. closure has base ts m) (depends_on base t ts) ≡ true = all_from (λ m. closure has base ts m) (depends_on base t ts) (λ m am. rest m (c.each t ts m (inl (refl, refl)) et am) (deps_low base t ts m k.1 am).1) in
          ap (λ z. closure has base (t ∷ ts) z) same ∙ (closure-own has base t ts ∙ and_from (has t ts) (all_in (λ m. closure has base ts m) (depends_on base t ts)) (w t ts (inl (refl, refl)) et) a)
      | inr other ↦ closure-other has base t ts n other ∙ rest n e (omega (arith, k.0))
    ]

-- ---- what follows

pub closure_more : (old new : Tx → List Tx → Bool) (base : ℕ) (h : List Tx) (n : ℕ) → AreNumbered base h → ((t : Tx) (ts : List Tx) → IsAt t ts h → old t ts ≡ true → new t ts ≡ true) → closure old base h n ≡ true → closure new base h n ≡ true
closure_more old new base h n k more e = closure_greatest new base h (λ m. closure old base h m) k (closure_closed old base h k) (λ t ts at em. more t ts at (closure_of old base t ts h k at em).0) n e (closure-high old base h n k e)

-- all numbers up to one pass, where all transactions up to it pass the test
pub closure_below : (has : Tx → List Tx → Bool) (base front : ℕ) (h : List Tx) (n : ℕ) → AreNumbered base h → ((t : Tx) (ts : List Tx) → IsAt t ts h → t.number ≤ front → has t ts ≡ true) → front ≤ base + length h → n ≤ front → closure has base h n ≡ true
closure_below has base front h n k below top l =
    closure_greatest has base h (λ m. leb m front) k
    (record {
      each = λ t ts m at e a.
          let low : t.number ≤ front = leb-true t.number front e in
          let r = at_numbered base t ts h k at in
          let d = deps_low base t ts m r.1 a in
          le-leb m front (omega (arith, d.1, r.0));
    })
    (λ t ts at e. below t ts at (leb-true t.number front e)) n (le-leb n front l) (omega (arith, top))

-- a newer transaction that doesn't pass changes nothing
pub closure_drawn : (has : Tx → List Tx → Bool) (base : ℕ) (t : Tx) (h : List Tx) (n : ℕ) → has t h ≡ false → closure has base (t ∷ h) n ≡ true → closure has base h n ≡ true
closure_drawn has base t h n fails e = elim (cases_eq n t.number) [
  | inl same ↦
      let own : closure has base (t ∷ h) t.number ≡ true = subst (λ z. closure has base (t ∷ h) z ≡ true) same e in
      absurd (false≢true (sym (and_left (has t h) (all_in (λ m. closure has base h m) (depends_on base t h)) fails) ∙ (sym (closure-own has base t h) ∙ own)))
  | inr other ↦ sym (closure-other has base t h n other) ∙ e
]

pub closure_still : (has : Tx → List Tx → Bool) (base : ℕ) (t : Tx) (h : List Tx) (n : ℕ) → AreNumbered base (t ∷ h) → closure has base h n ≡ true → closure has base (t ∷ h) n ≡ true
closure_still has base t h n k e =
    let l = closure-high has base h n k.1 e in
    let other : n ≢ t.number = omega (arith, k.0, l) in
    closure-other has base t h n other ∙ e

pub kept-in : (S : ℕ → Bool) (t : Tx) (ts : List Tx) → S t.number ≡ true → kept S (t ∷ ts) ≡ t ∷ kept S ts
kept-in S t ts e = rw e refl

pub kept-out : (S : ℕ → Bool) (t : Tx) (ts : List Tx) → S t.number ≡ false → kept S (t ∷ ts) ≡ kept S ts
kept-out S t ts e = rw e refl

pub kept_all : (S : ℕ → Bool) (base : ℕ) (h : List Tx) → AreNumbered base h → ((n : ℕ) → n ≤ base + length h → S n ≡ true) → kept S h ≡ h
kept_all S base [] k all = refl
kept_all S base (t ∷ ts) k all =
    let e = all t.number (omega (arith, k.0)) in
    kept-in S t ts e ∙ ap (λ us. t ∷ us) (kept_all S base ts k.1 (λ n l. all n (omega arith)))

-- ---- the dependences of a number

pub deps-own : (base : ℕ) (t : Tx) (ts : List Tx) → deps_of base (t ∷ ts) t.number ≡ depends_on base t ts
deps-own base t ts = rw (eq-eqb t.number t.number refl) refl

pub deps-other : (base : ℕ) (t : Tx) (ts : List Tx) (n : ℕ) → n ≢ t.number → deps_of base (t ∷ ts) n ≡ deps_of base ts n
deps-other base t ts n other = rw (ne_eqb n t.number other) refl

pub deps-at : (base : ℕ) (t : Tx) (ts h : List Tx) → AreNumbered base h → IsAt t ts h → deps_of base h t.number ≡ depends_on base t ts
deps-at base t ts [] k at = absurd at
deps-at base t ts (u ∷ us) k (inl same) = (λ i. deps_of base (same.0 i ∷ same.1 i) t.number) ∙ deps-own base t ts
deps-at base t ts (u ∷ us) k (inr deeper) =
    let m = at_most base t ts us k.1 deeper in
    let other : t.number ≢ u.number = (λ e. absurd (omega (arith, e, m, k.0))) in
    deps-other base u us t.number other ∙ deps-at base t ts us k.1 deeper
