-- Numbers whose whole map is kept at home are bases, as that at the opening is.
use Rattle.std.proofs.Common.{◌≡◌, ℕ, ◌≤◌, max, true, List, refl, sym, subst, inl, inr, arith}
use Rattle.std.proofs.lemmas.Bool.{cases_lt, eq-eqb, or_left}
use Rattle.mq_ledger.specs.KnownJournal.{KnownJournal, LogOk, front}
use Rattle.mq_ledger.proofs.History.{last_upto_bound}
use Rattle.mq_desk_laws.specs.Bases.{BaseOk}
use Rattle.mq_desk_laws.specs.Pages.{due_by}

pub base_due : (k : KnownJournal) (b : ℕ) → LogOk k → k.base ≤ b → b ≤ front k → ((x : ℕ) → k.due x b ≡ true) → BaseOk k b
base_due k b log low reached due =
    record {
      low = low;
      reached = reached;
      home = λ x content block there. inl (record { number = b; due = due x; low = last_upto_bound k.base b k.history x log.numbers low; same = refl });
    }

pub first_base : (k : KnownJournal) (ended : List (ℕ × ℕ)) → LogOk k → k.due ≡ due_by k.base ended → BaseOk k k.base
first_base k ended log due =
    base_due k k.base log (omega arith) (omega arith) (λ x. subst (λ f. f x k.base ≡ true) (sym due) (or_left _ _ (eq-eqb k.base k.base refl)))

-- the greater one of two bases
pub greater_base : (k : KnownJournal) (b c : ℕ) → BaseOk k b → BaseOk k c → BaseOk k (max b c)
greater_base k b c one other = elim (cases_lt b c) [
  | inl more ↦ (let is : c ≡ max b c = omega arith in subst (λ n. BaseOk k n) is other)
  | inr less ↦ (let is : b ≡ max b c = omega arith in subst (λ n. BaseOk k n) is one)
]
