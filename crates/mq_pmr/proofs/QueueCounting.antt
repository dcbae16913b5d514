-- How many commands stand at a count.
use Rattle.std.proofs.Common.{◌≡◌, ◌≢◌, ◌<◌, ◌≤◌, inl, inr, ℕ, zero, suc, ◌+◌, ◌%◌, Bool, true, false, List, [], ◌∷◌, ◌++◌, length, Some, set, refl, sym, ◌∙◌, ap, subst, arith, cond}
use Rattle.std.specs.Prelude.{slice_get, nat_eq, nat_le, ◌&&◌}
use Rattle.std.specs.List.{remove}
use Rattle.std.proofs.lemmas.Bool.{cases_eq, cases_lt, eq-eqb, le-leb, lt-leb}
use Rattle.std.proofs.lemmas.Bool.Decides.{nat_tests}
use Rattle.std.proofs.lemmas.List.{get_or-set_other, get_or-set_same}
use Rattle.std.proofs.lemmas.List.Elements.{All-cons, All-rest}
use Rattle.std.proofs.Math.Bool.{and-false}
use Rattle.mq_blocks.specs.Drive.{AreFrom}
use Rattle.mq_blocks.specs.Limits.{depth}
use Rattle.mq_blocks.specs.declared.command.Command.{Command}
use Rattle.mq_pmr.specs.Queue.{times, AreNamed}
use Rattle.mq_pmr.specs.Rungs.{are_from}
use Rattle.mq_pmr.specs.Slots.{tx_in, blank}
use Rattle.mq_pmr.specs.declared.slots.SlotRecord.{SlotRecord}

-- whether one command stands at a count, as a number
pub at_count : ℕ → Command → ℕ
at_count n c = cond (nat_eq c.count n) 1 0

pub at_count-here : (n : ℕ) (c : Command) → c.count ≡ n → at_count n c ≡ 1
unfolding at_count
at_count-here n c here = ap (λ (b : Bool). cond b 1 0) (eq-eqb c.count n here)

pub at_count-other : (n : ℕ) (c : Command) → c.count ≢ n → at_count n c ≡ 0
unfolding at_count
at_count-other n c other = grind (arith, nat_tests)

pub times-cons : (n : ℕ) (c : Command) (cs : List Command) → times n (c ∷ cs) ≡ at_count n c + times n cs
unfolding at_count
times-cons n c cs = refl

pub times-append : (n : ℕ) (xs ys : List Command) → times n (xs ++ ys) ≡ times n xs + times n ys
times-append n [] ys = omega arith
times-append n (c ∷ cs) ys = omega (arith, times-cons n c (cs ++ ys), times-cons n c cs, times-append n cs ys)

pub times-one : (n : ℕ) (cs : List Command) (c : Command) → times n (cs ++ c ∷ []) ≡ times n cs + at_count n c
times-one n cs c = omega (arith, times-append n cs (c ∷ []), times-cons n c [])

pub times-remove : (n i : ℕ) (cs : List Command) (c : Command) → slice_get cs i ≡ Some c → times n cs ≡ times n (remove cs i) + at_count n c
times-remove n i [] c is = cc
times-remove n zero (d ∷ cs) c is = let same : d ≡ c = cc in subst (λ (e : Command). times n (d ∷ cs) ≡ times n cs + at_count n e) same (omega (arith, times-cons n d cs))
times-remove n (suc i) (d ∷ cs) c is = omega (arith, times-cons n d cs, times-cons n d (remove cs i), times-remove n i cs c is)

pub times-at : (i : ℕ) (cs : List Command) (c : Command) → slice_get cs i ≡ Some c → 0 < times c.count cs
times-at i cs c is = omega (arith, times-remove c.count i cs c is, at_count-here c.count c refl)

-- ---- below a count

pub from_none : (low : ℕ) (cs : List Command) → ((n : ℕ) → n < low → times n cs ≡ 0) → AreFrom low cs
from_none low [] none = tt
from_none low (c ∷ cs) none = (
  elim (cases_lt c.count low) as (λ _. low ≤ c.count) [
    | inl below ↦ absurd (omega (arith, none c.count below, times-cons c.count c cs, at_count-here c.count c refl))
    | inr above ↦ above
  ],
  from_none low cs (λ n less. omega (arith, none n less, times-cons n c cs)),
)

pub are_from-yes : (low : ℕ) (cs : List Command) → ((n : ℕ) → n < low → times n cs ≡ 0) → are_from low cs ≡ true
are_from-yes low [] none = refl
are_from-yes low (c ∷ cs) none =
    let from : (low ≤ c.count) × AreFrom low cs = from_none low (c ∷ cs) none in
    let rest = are_from-yes low cs (λ n less. omega (arith, none n less, times-cons n c cs)) in
    ap (λ (b : Bool). b && are_from low cs) (le-leb low c.count from.0) ∙ rest

pub are_from-no : (low n : ℕ) (cs : List Command) → n < low → 0 < times n cs → are_from low cs ≡ false
are_from-no low n [] less some = absurd (omega (arith, some))
are_from-no low n (c ∷ cs) less some = elim (cases_eq c.count n) [
  | inl here ↦ ap (λ (b : Bool). b && are_from low cs) (lt-leb low c.count (omega (arith, here, less)))
  | inr other ↦
      ap (λ (b : Bool). nat_le low c.count && b) (are_from-no low n cs less (omega (arith, some, times-cons n c cs, at_count-other n c other)))
      ∙ and-false (nat_le low c.count)
]

-- ---- the transactions that the slots name

pub named_set : (slots : List SlotRecord) (k : ℕ) (v : SlotRecord) (cs : List Command) → ((n : ℕ) → 0 < times n cs → n % depth ≢ k) → AreNamed slots cs → AreNamed (set slots k v) cs
named_set slots k v [] other named = λ i d less. absurd (omega (arith, less))
named_set slots k v (c ∷ cs) other named =
    let here : c.count % depth ≢ k = other c.count (omega (arith, times-cons c.count c cs, at_count-here c.count c refl)) in
    let kept : tx_in (set slots k v) (c.count % depth) ≡ c.tx =
    ap (λ (s : SlotRecord). s.tx) (get_or-set_other slots k (c.count % depth) v blank here) ∙ named 0 c (omega arith) in
    All-cons (λ d. tx_in (set slots k v) (d.count % depth) ≡ d.tx) c cs kept
    (named_set slots k v cs (λ n some. other n (omega (arith, times-cons n c cs, some)))
    (All-rest (λ d. tx_in slots (d.count % depth) ≡ d.tx) c cs (c ∷ cs) refl named))

pub tx_kept : (slots : List SlotRecord) (k j : ℕ) (v : SlotRecord) → k < length slots → v.tx ≡ tx_in slots k → tx_in (set slots k v) j ≡ tx_in slots j
tx_kept slots k j v within same = elim (cases_eq j k) [
  | inl here ↦
      ap (λ (n : ℕ). tx_in (set slots k v) n) here ∙ ap (λ (s : SlotRecord). s.tx) (get_or-set_same slots k v blank within) ∙ same ∙ ap (tx_in slots) (sym here)
  | inr other ↦ ap (λ (s : SlotRecord). s.tx) (get_or-set_other slots k j v blank other)
]

pub named_same : (slots : List SlotRecord) (k : ℕ) (v : SlotRecord) (cs : List Command) → k < length slots → v.tx ≡ tx_in slots k → AreNamed slots cs → AreNamed (set slots k v) cs
named_same slots k v cs within same named = λ i d less. tx_kept slots k _ v within same ∙ named i d less
