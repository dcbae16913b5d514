-- The last change of a block; and where no block is written directly, no port needs a block's content at home.
use Rattle.std.proofs.Common.{◌≡◌, ℕ, ◌<◌, ◌≤◌, true, false, List, [], ◌∷◌, sym, refl, ap, ◌∙◌, inl, inr, arith}
use Rattle.std.proofs.lemmas.Bool.{cases_lt, cases_Bool, false≢true}
use Rattle.mq_blocks.specs.Journal.{is_among}
use Rattle.mq_ledger.specs.History.{blocks_of, changes, last, upto, AreNumbered, IsAt}
use Rattle.mq_ledger.specs.KnownJournal.{KnownJournal}
use Rattle.mq_ledger.specs.declared.tx.Tx.{Tx}
use Rattle.mq_ledger.proofs.History.{last-changed, last-same, upto-at, upto-past, at_most}
use Rattle.mq_core.proofs.Homes.{IsFree}
use Rattle.mq_core.proofs.KnownJournalSources.{DirectIn}
use Rattle.mq_loose.specs.Safe.{IsPlain}

-- ---- the last change of a block

-- where a number above the base changed the block last, it is one of the history's
pub record LastOf (base : ℕ) (h : List Tx) (x : ℕ) : Type 0 where
  pub t : Tx
  pub ts : List Tx
  pub at : IsAt t ts h
  pub number : t.number ≡ last base h x
  pub changes_it : changes t x ≡ true

pub last_from : (base : ℕ) (h : List Tx) (x : ℕ) → base < last base h x → LastOf base h x
last_from base [] x l = absurd (omega arith)
last_from base (t ∷ ts) x l = elim (cases_Bool (changes t x)) [
  | inl c ↦ record { t = t; ts = ts; at = inl (refl, refl); number = sym (last-changed base t ts x c); changes_it = c }
  | inr c ↦
      let same = last-same base t ts x c in
      let r = last_from base ts x (omega (arith, same)) in
      record { t = r.t; ts = r.ts; at = inr r.at; number = r.number ∙ sym same; changes_it = r.changes_it }
]

-- where no transaction above a number changes the block, its last change is no later
pub last_within : (base v : ℕ) (h : List Tx) (x : ℕ) → base ≤ v → ((t : Tx) (ts : List Tx) → IsAt t ts h → changes t x ≡ true → t.number ≤ v) → last base h x ≤ v
last_within base v h x low each = elim (cases_lt base (last base h x)) [
  | inl above ↦
      let r = last_from base h x above in
      let l = each r.t r.ts r.at r.changes_it in
      omega (arith, l, r.number)
  | inr none ↦ omega arith
]

pub at_upto : (n : ℕ) (t : Tx) (ts h : List Tx) (base : ℕ) → AreNumbered base h → IsAt t ts (upto n h) → IsAt t ts h × (t.number ≤ n)
at_upto n t ts [] base k at = absurd at
at_upto n t ts (u ∷ us) base k at = elim (cases_lt n u.number) [
  | inl past ↦ (let r = at_upto n t ts us base k.1 (rw (upto-past n u us past) at at) in (inr r.0, r.1))
  | inr low ↦
      let there : IsAt t ts (u ∷ us) = rw (upto-at n u us low) at at in
      let m = at_most base t ts (u ∷ us) k there in
      (there, omega (arith, m, k.0))
]

-- ---- no block is written directly

pub no_direct : (k : KnownJournal) (q : ℕ) (txs : List Tx) (c x : ℕ) → ((t : Tx) (ts : List Tx) → IsAt t ts k.history → IsPlain t) → DirectIn k q txs c x → ⊥
no_direct k q txs c x plain d = (let p = plain d.t d.ts d.at in false≢true (sym (ap (λ ws. is_among x (blocks_of ws)) p.direct) ∙ d.among))

-- so no port needs a block's content at home
pub free_always : (k : KnownJournal) (x : ℕ) → ((t : Tx) (ts : List Tx) → IsAt t ts k.history → IsPlain t) → ((y v : ℕ) → k.due y v ≡ false) → IsFree k x
free_always k x plain never =
    record {
      direct = λ t ts at among m. (let p = plain t ts at in false≢true (sym (ap (λ ws. is_among x (blocks_of ws)) p.direct) ∙ among));
      due = λ v due m. false≢true (sym (never x v) ∙ due);
    }
