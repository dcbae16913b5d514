-- How far the images of a journal reach whose entries stand below the flushed head.
use Rattle.std.proofs.Common.{◌≡◌, ℕ, ◌+◌, ◌≤◌, Bool, true, List, [], ◌∷◌, length, refl, sym, ap, subst, ◌∙◌, arith, inl, inr}
use Rattle.std.proofs.lemmas.Bool.{and_from, cases_Bool, le-leb}
use Rattle.mq_blocks.specs.Drive.{PortState}
use Rattle.mq_ledger.specs.History.{AreNumbered, all_of, of_queue, part_of, upto}
use Rattle.mq_ledger.specs.Items.{end_of}
use Rattle.mq_ledger.specs.State.{from_at, is_done, port_at}
use Rattle.mq_ledger.specs.declared.tx.Tx.{Tx}
use Rattle.mq_replica.specs.Opened.{AreLogged}
use Rattle.mq_replica.proofs.Journals.{own_queue}

-- a transaction whose entries stand below the head is done
done_below : (from : ℕ) (p : PortState) (t : Tx) (ts : List Tx) → AreLogged (t ∷ ts) → end_of from (t ∷ ts) ≤ p.head → is_done (from ∷ []) (p ∷ []) t ts ≡ true
done_below from p t ts are low =
    let here : end_of (from_at (from ∷ []) t.queue) (of_queue t.queue ts) ≡ end_of from ts = (λ i. end_of (from_at (from ∷ []) (are.0 i)) (of_queue (are.0 i) ts)) ∙ ap (end_of from) (own_queue ts are.3) in
    let port : (port_at (p ∷ []) t.queue).head ≡ p.head = ap (λ (q : ℕ). (port_at (p ∷ []) q).head) are.0 in
    le-leb _ _ (omega (arith, here, port, low))

-- so are all
pub all_below : (from : ℕ) (p : PortState) (ts : List Tx) → AreLogged ts → end_of from ts ≤ p.head → all_of (is_done (from ∷ []) (p ∷ [])) ts ≡ true
all_below from p [] are low = refl
all_below from p (t ∷ ts) are low = and_from _ _ (done_below from p t ts are low) (all_below from p ts are.3 (omega (arith, low)))

pub part_all : (has : Tx → List Tx → Bool) (ts : List Tx) → all_of has ts ≡ true → part_of has ts ≡ ts
part_all has [] e = refl
part_all has (t ∷ ts) e = rw e refl

-- or all but the newest
pub part_but : (has : Tx → List Tx → Bool) (t : Tx) (ts : List Tx) → all_of has ts ≡ true → length ts ≤ length (part_of has (t ∷ ts))
part_but has t ts e = elim (cases_Bool (all_of has (t ∷ ts))) [
  | inl y ↦ rw y (omega arith)
  | inr n ↦ rw n (let p = part_all has ts e in subst (λ (us : List Tx). length ts ≤ length us) (sym p) (omega arith))
]

-- up to the last number, all of them
pub upto_last : (base : ℕ) (ts : List Tx) (n : ℕ) → AreNumbered base ts → base + length ts ≤ n → upto n ts ≡ ts
upto_last base [] n are high = refl
upto_last base (t ∷ ts) n are high = rw (le-leb t.number n (let e = are.0 in omega (arith, e, high))) refl

-- up to the one before it, all but the newest
pub upto_before : (base : ℕ) (t : Tx) (ts : List Tx) → AreNumbered base (t ∷ ts) → upto (base + length ts) (t ∷ ts) ≡ ts
upto_before base t ts are = rw (Rattle.std.proofs.lemmas.Bool.lt-leb t.number (base + length ts) (let e = are.0 in omega (arith, e))) (upto_last base ts (base + length ts) are.1 (omega arith))

-- up to the base, none
pub upto_base : (base : ℕ) (ts : List Tx) → AreNumbered base ts → upto base ts ≡ []
upto_base base [] are = refl
upto_base base (t ∷ ts) are = rw (Rattle.std.proofs.lemmas.Bool.lt-leb t.number base (let e = are.0 in omega (arith, e))) (upto_base base ts are.1)
