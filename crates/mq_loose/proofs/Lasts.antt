-- The last changes of blocks, one block after another.
use Rattle.std.proofs.Common.{◌≡◌, ℕ, true, ◌<◌, List, [], ◌∷◌, ◌++◌, length, drop, get_or, refl, sym, ap, subst, arith}
use Rattle.std.proofs.lemmas.List.{drop_all}
use Rattle.mq_blocks.specs.Descriptor.{AreRising}
use Rattle.mq_blocks.specs.Journal.{is_among}
use Rattle.mq_blocks.proofs.JournalAmong.{at-among}
use Rattle.mq_ledger.specs.History.{last}
use Rattle.mq_ledger.specs.declared.tx.Tx.{Tx}
use Rattle.mq_core.proofs.KnownJournalSources.{among_below}
use Rattle.mq_loose_order.specs.Dependence.{last_of_each, with_last}
use Rattle.mq_loose.specs.Rows.{with_lasts}

pub lasts-none : (base : ℕ) (xs : List ℕ) (ts : List Tx) (ns : List ℕ) → with_lasts base (drop (length xs) xs) ts ns ≡ ns
lasts-none base xs ts ns = ap (λ ys. with_lasts base ys ts ns) (drop_all (length xs) xs (omega arith))

pub below_homes : (homes : ℕ) (xs : List ℕ) (k x : ℕ) → AreRising 0 homes xs → k < length xs → x ≡ get_or xs k 0 → x < homes
below_homes homes xs k x r l is = among_below 0 homes xs x r (subst (λ y. is_among y xs ≡ true) (sym is) (at-among xs k l))

-- of two lists, the second first
pub lasts-both : (base : ℕ) (xs ys : List ℕ) (ts : List Tx) → with_lasts base xs ts (last_of_each base ys ts) ≡ last_of_each base (xs ++ ys) ts
lasts-both base [] ys ts = refl
lasts-both base (x ∷ xs) ys ts = ap (with_last base (last base ts x)) (lasts-both base xs ys ts)

pub lasts-all : (base : ℕ) (xs : List ℕ) (ts : List Tx) → with_lasts base xs ts [] ≡ last_of_each base xs ts
lasts-all base [] ts = refl
lasts-all base (x ∷ xs) ts = ap (with_last base (last base ts x)) (lasts-all base xs ts)
