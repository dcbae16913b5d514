-- Lists of commands: whose they are, their counts, and one taken out.
use Rattle.std.proofs.Common.{◌≡◌, ◌≢◌, ℕ, zero, suc, ◌+◌, ◌<◌, ◌≤◌, eqb, true, false, List, [], ◌∷◌, ◌++◌, length, get_or, refl, sym, ap, ◌∙◌, inl, inr, arith}
use Rattle.std.proofs.lemmas.Bool.{cases_Bool, cases_eq, eqb-true, eq-eqb, ne_eqb, false≢true}
use Rattle.std.specs.List.{remove}
use Rattle.mq_blocks.specs.Drive.{PortState, AreFrom, AreCounted, IsApartFrom, index_of}
use Rattle.mq_blocks.proofs.DriveCounts.{counted_low, counted_high}
use Rattle.mq_blocks.specs.declared.command.Command.{Command}
use Rattle.mq_blocks.specs.declared.geometry.Geometry.{Geometry}
use Rattle.mq_blocks.specs.Descriptor.{DescriptorForm}
use Rattle.mq_ledger.specs.Items.{command_of, item_at}
use Rattle.mq_ledger.specs.KnownJournal.{KnownJournal}
use Rattle.mq_ledger.specs.Sides.{AreOwn, AreNext, IsDone, SideOk, holds_count}
use Rattle.mq_ledger.specs.declared.tx.Tx.{Tx}
use Rattle.mq_core.specs.Events.{index_with, command_with}

-- the command of a count that stands in a list
pub count-with : (n : ℕ) (cs : List Command) → holds_count n cs ≡ true → (command_with n cs).count ≡ n
count-with n [] e = absurd (false≢true e)
count-with n (c ∷ cs) e = elim (cases_Bool (eqb c.count n)) [
  | inl same ↦ rw same (eqb-true _ _ same)
  | inr other ↦ rw other (count-with n cs (rw other at e))
]

pub own_with : (form : DescriptorForm) (g : Geometry) (q from n : ℕ) (txs : List Tx) (cs : List Command) → AreOwn form g q from txs cs → holds_count n cs ≡ true → command_with n cs ≡ command_of form g q n (item_at from txs n)
own_with form g q from n txs [] own e = absurd (false≢true e)
own_with form g q from n txs (c ∷ cs) own e = elim (cases_Bool (eqb c.count n)) [
  | inl same ↦ rw same (own.0 ∙ ap (λ m. command_of form g q m (item_at from txs m)) (eqb-true _ _ same))
  | inr other ↦ rw other (own_with form g q from n txs cs own.1 (rw other at e))
]

pub own_remove : (form : DescriptorForm) (g : Geometry) (q from : ℕ) (txs : List Tx) (i : ℕ) (cs : List Command) → AreOwn form g q from txs cs → AreOwn form g q from txs (remove cs i)
own_remove form g q from txs zero [] own = tt
own_remove form g q from txs zero (c ∷ cs) own = own.1
own_remove form g q from txs (suc i) [] own = tt
own_remove form g q from txs (suc i) (c ∷ cs) own = (own.0, own_remove form g q from txs i cs own.1)

pub own_append : (form : DescriptorForm) (g : Geometry) (q from : ℕ) (txs : List Tx) (bs cs : List Command) → AreOwn form g q from txs bs → AreOwn form g q from txs cs → AreOwn form g q from txs (bs ++ cs)
own_append form g q from txs [] cs a b = b
own_append form g q from txs (c ∷ bs) cs a b = (a.0, own_append form g q from txs bs cs a.1 b)

-- ---- counts

pub counted_next : (n : ℕ) (cs : List Command) → AreNext n cs → AreCounted n (n + length cs) cs
counted_next n [] k = tt
counted_next n (c ∷ cs) k = (omega (arith, k.0), (omega (arith, k.0), go (counted_high (n + 1) (n + 1 + length cs) (n + length (c ∷ cs)) cs (omega arith) (counted_next (n + 1) cs k.1))))
  where
    go : AreCounted (n + 1) (n + length (c ∷ cs)) cs → AreCounted (c.count + 1) (n + length (c ∷ cs)) cs
    go r = rw k.0 r

-- a count that stands in a list is in its range
pub count_range : (low high n : ℕ) (cs : List Command) → AreCounted low high cs → holds_count n cs ≡ true → (low ≤ n) × (n < high)
count_range low high n [] k e = absurd (false≢true e)
count_range low high n (c ∷ cs) k e = elim (cases_Bool (eqb c.count n)) [
  | inl same ↦ (let m = eqb-true _ _ same in (omega (arith, k.0), omega (arith, k.1.0)))
  | inr other ↦ (let r = count_range (c.count + 1) high n cs k.1.1 (rw other at e) in (omega (arith, r.0, k.0), r.1))
]

-- a list from a higher count on
pub from_append : (low : ℕ) (bs cs : List Command) → AreFrom low bs → AreFrom low cs → AreFrom low (bs ++ cs)
from_append low [] cs a b = b
from_append low (c ∷ bs) cs a b = (a.0, from_append low bs cs a.1 b)

pub below_from : (low n : ℕ) (cs : List Command) → AreFrom low cs → n < low → holds_count n cs ≡ false
below_from low n [] f l = refl
below_from low n (c ∷ cs) f l = rw (ne_eqb c.count n (λ e. omega (arith, f.0))) (below_from low n cs f.1 l)

pub from_counted : (low high : ℕ) (cs : List Command) → AreCounted low high cs → AreFrom low cs
from_counted low high [] k = tt
from_counted low high (c ∷ cs) k = (k.0, from_counted low high cs (counted_low (c.count + 1) low high cs (omega (arith, k.0)) k.1.1))

-- an entry below the stored head is done
pub done_stored : (k : KnownJournal) (q : ℕ) (txs : List Tx) (p : PortState) (c : ℕ) → SideOk k q txs p → c < p.stored_head → IsDone p c
done_stored k q txs p c s low =
    record {
      rung = omega (arith, s.order.rung);
      posted = below_from p.stored_head c p.posted (from_counted p.stored_head p.doorbell p.posted s.commands.posted_counts) low;
      failed = below_from p.stored_head c p.failed s.commands.failed_counts low;
    }

-- ---- one taken out

-- what isn't there after it was taken out wasn't there before, or is it
pub left_out : (n d : ℕ) (cs : List Command) → d ≢ n → holds_count d (remove cs (index_with n cs)) ≡ false → holds_count d cs ≡ false
left_out n d [] other e = refl
left_out n d (c ∷ cs) other e = elim (cases_Bool (eqb c.count n)) [
  | inl same ↦ (let m = eqb-true _ _ same in rw (ne_eqb c.count d (λ k. other (sym k ∙ m))) (rw same at e))
  | inr apart ↦ (let e' = rw apart at e in elim (cases_Bool (eqb c.count d)) [
    | inl here ↦ absurd (false≢true (sym (rw here at e')))
    | inr there ↦ rw there (left_out n d cs other (rw there at e'))
  ])
]

-- the one that was taken out isn't there twice
pub taken_out : (low high n : ℕ) (cs : List Command) → AreCounted low high cs → holds_count n (remove cs (index_with n cs)) ≡ false
taken_out low high n [] k = refl
taken_out low high n (c ∷ cs) k = elim (cases_Bool (eqb c.count n)) [
  | inl same ↦ (let m = eqb-true _ _ same in rw same (below_from (c.count + 1) n cs (from_counted _ _ cs k.1.1) (omega arith)))
  | inr other ↦ rw other (rw other (taken_out (c.count + 1) high n cs k.1.1))
]

pub held_remove : (n i : ℕ) (cs : List Command) → holds_count n (remove cs i) ≡ true → holds_count n cs ≡ true
held_remove n zero [] e = e
held_remove n zero (c ∷ cs) e = elim (cases_Bool (eqb c.count n)) [
  | inl same ↦ rw same refl
  | inr other ↦ rw other e
]
held_remove n (suc i) [] e = e
held_remove n (suc i) (c ∷ cs) e = elim (cases_Bool (eqb c.count n)) [
  | inl same ↦ rw same refl
  | inr other ↦ rw other (held_remove n i cs (rw other at e))
]

pub held_append : (n : ℕ) (bs cs : List Command) → holds_count n (bs ++ cs) ≡ false → (holds_count n bs ≡ false) × (holds_count n cs ≡ false)
held_append n [] cs e = (refl, e)
held_append n (c ∷ bs) cs e = elim (cases_Bool (eqb c.count n)) [
  | inl same ↦ absurd (false≢true (sym (rw same at e)))
  | inr other ↦ rw other (held_append n bs cs (rw other at e))
]

-- commands that follow one another hold each count in between
pub next_holds : (n d : ℕ) (cs : List Command) → AreNext n cs → n ≤ d → d < n + length cs → holds_count d cs ≡ true
next_holds n d [] k l u = absurd (omega arith)
next_holds n d (c ∷ cs) k l u = elim (cases_eq c.count d) [
  | inl same ↦ rw (eq-eqb _ _ same) refl
  | inr other ↦ rw (ne_eqb _ _ other) (next_holds (n + 1) d cs k.1 (omega (arith, k.0)) (omega arith))
]

pub next_append : (n : ℕ) (bs : List Command) (c : Command) → AreNext n bs → c.count ≡ n + length bs → AreNext n (bs ++ c ∷ [])
next_append n [] c k e = (omega (arith, e), tt)
next_append n (b ∷ bs) c k e = (k.0, next_append (n + 1) bs c k.1 (omega (arith, e)))

-- ---- blocks apart from what a list writes

pub apart_along : (s r : PortState) (k : ℕ) (cs : List Command) → ((lba : ℕ) → index_of r lba ≡ index_of s lba) → IsApartFrom s k cs → IsApartFrom r k cs
apart_along s r k [] same a = tt
apart_along s r k (c ∷ cs) same a = (λ e. a.0 (sym (same c.lba) ∙ e), apart_along s r k cs same a.1)

pub apart_remove : (s : PortState) (k i : ℕ) (cs : List Command) → IsApartFrom s k cs → IsApartFrom s k (remove cs i)
apart_remove s k zero [] a = tt
apart_remove s k zero (c ∷ cs) a = a.1
apart_remove s k (suc i) [] a = tt
apart_remove s k (suc i) (c ∷ cs) a = (a.0, apart_remove s k i cs a.1)

pub apart_append : (s : PortState) (k : ℕ) (bs cs : List Command) → IsApartFrom s k bs → IsApartFrom s k cs → IsApartFrom s k (bs ++ cs)
apart_append s k [] cs a b = b
apart_append s k (c ∷ bs) cs a b = (a.0, apart_append s k bs cs a.1 b)

pub apart_with : (s : PortState) (k n : ℕ) (cs : List Command) → IsApartFrom s k cs → holds_count n cs ≡ true → index_of s (command_with n cs).lba ≢ k
apart_with s k n [] a e = absurd (false≢true e)
apart_with s k n (c ∷ cs) a e = elim (cases_Bool (eqb c.count n)) [
  | inl same ↦ rw same a.0
  | inr other ↦ rw other (apart_with s k n cs a.1 (rw other at e))
]

-- own commands write blocks apart from one if their entries do
pub apart_own : (form : DescriptorForm) (s : PortState) (g : Geometry) (q from : ℕ) (txs : List Tx) (k : ℕ) (cs : List Command) → AreOwn form g q from txs cs → ((n : ℕ) → holds_count n cs ≡ true → index_of s (command_of form g q n (item_at from txs n)).lba ≢ k) → IsApartFrom s k cs
apart_own form s g q from txs k [] own each = tt
apart_own form s g q from txs k (c ∷ cs) own each = (
  λ e. each c.count (rw (eq-eqb c.count c.count refl) refl) (ap (λ (b : Command). index_of s b.lba) (sym own.0) ∙ e),
  apart_own form s g q from txs k cs own.1 (λ n held. each n (elim (cases_Bool (eqb c.count n)) [
    | inl same ↦ rw same refl
    | inr other ↦ rw other held
  ])),
)

-- the command of a count stands at its index
pub with_at : (n : ℕ) (cs : List Command) (d : Command) → holds_count n cs ≡ true → get_or cs (index_with n cs) d ≡ command_with n cs
with_at n [] d e = absurd (false≢true e)
with_at n (c ∷ cs) d e = elim (cases_Bool (eqb c.count n)) [
  | inl same ↦ rw same refl
  | inr other ↦ rw other (with_at n cs d (rw other at e))
]
