-- Which transactions stand, of those that are taken by rising number.
use Rattle.std.proofs.Common.{◌≡◌, ◌≢◌, ℕ, ◌<◌, Bool, true, false, eqb, List, [], ◌∷◌, ◌++◌, length, reverse, Option, Some, None, MatchOption, refl, sym, ap, subst, ◌∙◌, inl, inr, arith}
use Rattle.std.proofs.lemmas.Bool.{cases_Bool, eq-eqb, ne_eqb}
use Rattle.std.proofs.lemmas.List.{reverse-append}
use Rattle.std.specs.Prelude.{◌||◌, ◌&&◌, nat_le, if◌then◌else◌}
use Rattle.mq_blocks.specs.Descriptor.{Descriptor, IsGood}
use Rattle.mq_blocks.specs.Geometry.{homes_of}
use Rattle.mq_blocks.specs.Journal.{Has, is_among}
use Rattle.mq_blocks.specs.Limits.{list_limit}
use Rattle.mq_blocks.specs.declared.geometry.Geometry.{Geometry}
use Rattle.mq_loose_order.specs.Dependence.{all_in}
use Rattle.mq_loose_order.specs.Standing.{in_set, numbers_of, standing}
use Rattle.mq_recover.proofs.Merges.{falls-under, none-taken}
use Rattle.mq_recover.proofs.RecoverCopies.{length-with_all}
use Rattle.mq_recover.specs.Copies.{with_all, with_transaction}
use Rattle.mq_recover.specs.Drives.{DriveState}
use Rattle.mq_recover.specs.Merges.{AreMerged, IsMerging}
use Rattle.mq_recover.specs.Queues.{AreChains}
use Rattle.mq_recover.specs.Recover.{chain_at}
use Rattle.mq_recover.specs.declared.copies.CopyPlace.{CopyPlace}
use Rattle.mq_loose_recover.specs.Choices.{IsLooselyChosen, block_of, deps_shown}
use Rattle.mq_loose_recover.specs.Reading.{deps_of_block}
use Rattle.mq_loose_recover.specs.declared.choice.LooseChosen.{LooseChosen}

-- ---- numbers in reverse

among-append : (n : ℕ) (xs ys : List ℕ) → is_among n (xs ++ ys) ≡ (is_among n xs || is_among n ys)
among-append n [] ys = refl
among-append n (x ∷ xs) ys = elim (cases_Bool (eqb x n)) [ inl same ↦ rw same refl | inr other ↦ rw other (among-append n xs ys) ]

or-last : (a b : Bool) → (a || (if b then true else false)) ≡ (if b then true else a)
or-last true true = refl
or-last true false = refl
or-last false true = refl
or-last false false = refl

among-reverse : (n : ℕ) (xs : List ℕ) → is_among n (reverse xs) ≡ is_among n xs
among-reverse n [] = refl
among-reverse n (x ∷ xs) =
    ap (is_among n) (reverse-append (x ∷ []) xs) ∙ among-append n (reverse xs) (x ∷ []) ∙ or-last (is_among n (reverse xs)) (eqb x n) ∙ ap (λ (t : Bool). if eqb x n then true else t) (among-reverse n xs)

-- ---- what stands

all-same : (S T : ℕ → Bool) (ns : List ℕ) → ((n : ℕ) → S n ≡ T n) → all_in S ns ≡ all_in T ns
all-same S T [] same = refl
all-same S T (n ∷ ns) same = λ i. same n i && all-same S T ns same i

-- only on what these depend counts
pub standing-same : (deps others : ℕ → List ℕ) (base : ℕ) (ds : List Descriptor) → ((e : Descriptor) → Has ds e → deps e.number ≡ others e.number) → standing deps base ds ≡ standing others base ds
standing-same deps others base [] same = refl
standing-same deps others base (d ∷ ds) same =
    let rest = standing-same deps others base ds (λ e has. same e (inr has)) in
    let here = same d (inl refl) in
    λ i. if all_in (in_set base (rest i)) (here i) then d ∷ rest i else rest i

pub shown-own : (g : Geometry) (d : DriveState) (x : Descriptor) (xs : List Descriptor) → deps_shown g d (x ∷ xs) x.number ≡ deps_of_block (block_of g d x)
shown-own g d x xs = rw (eq-eqb x.number x.number refl) refl

pub shown-other : (g : Geometry) (d : DriveState) (x : Descriptor) (xs : List Descriptor) (n : ℕ) → n ≢ x.number → deps_shown g d (x ∷ xs) n ≡ deps_shown g d xs n
shown-other g d x xs n apart = rw (ne_eqb n x.number apart) refl

module _ (g : Geometry) (d : DriveState) (base : ℕ) (x : Descriptor) (xs : List Descriptor) (low : (e : Descriptor) → Has xs e → e.number < x.number) where
  -- those before it stand as before
  rest-same : standing (deps_shown g d (x ∷ xs)) base xs ≡ standing (deps_shown g d xs) base xs
  rest-same = standing-same (deps_shown g d (x ∷ xs)) (deps_shown g d xs) base xs (λ e has. let l = low e has in shown-other g d x xs e.number (λ same. omega (arith, l, same)))

  test-same : all_in (in_set base (standing (deps_shown g d (x ∷ xs)) base xs)) (deps_shown g d (x ∷ xs) x.number) ≡ all_in (in_set base (standing (deps_shown g d xs) base xs)) (deps_of_block (block_of g d x))
  test-same = λ i. all_in (in_set base (rest-same i)) (shown-own g d x xs i)

  stands-next : all_in (in_set base (standing (deps_shown g d xs) base xs)) (deps_of_block (block_of g d x)) ≡ true → standing (deps_shown g d (x ∷ xs)) base (x ∷ xs) ≡ x ∷ standing (deps_shown g d xs) base xs
  stands-next met = rw (test-same ∙ met) (ap (λ (l : List Descriptor). x ∷ l) rest-same)

  falls-next : all_in (in_set base (standing (deps_shown g d xs) base xs)) (deps_of_block (block_of g d x)) ≡ false → standing (deps_shown g d (x ∷ xs)) base (x ∷ xs) ≡ standing (deps_shown g d xs) base xs
  falls-next not = rw (test-same ∙ not) rest-same

-- ---- as the loop has it

-- These chains are left, and copies and numbers are those of the transactions that stand of what was taken.
pub record IsLooselyChoosing (g : Geometry) (d : DriveState) (base : ℕ) (all left : List (List Descriptor)) (copies : List (Option CopyPlace)) (set : List ℕ) : Type 0 where
  pub taken : List Descriptor
  pub merging : IsMerging (homes_of g) base all left taken
  pub copies_are : copies ≡ with_all (homes_of g) (standing (deps_shown g d taken) base taken)
  pub set_is : set ≡ reverse (numbers_of (standing (deps_shown g d taken) base taken))

pub none-chosen : (g : Geometry) (d : DriveState) (base : ℕ) (all : List (List Descriptor)) (copies : List (Option CopyPlace)) (set : List ℕ) → AreChains (homes_of g) base all → copies ≡ with_all (homes_of g) [] → set ≡ [] → IsLooselyChoosing g d base all all copies set
none-chosen g d base all copies set chains is none = record { taken = []; merging = none-taken (homes_of g) base all chains; copies_are = is; set_is = none }

-- what the next transaction meets, and what is chosen after it
pub record CanChoose (g : Geometry) (d : DriveState) (base : ℕ) (all next : List (List Descriptor)) (copies : List (Option CopyPlace)) (set : List ℕ) (x : Descriptor) : Type 0 where
  pub good : IsGood list_limit (length copies) x
  pub own : x.queue < length all
  pub has : Has (chain_at all x.queue) x
  -- all on which it depends stands
  pub chosen : (more : List (Option CopyPlace)) (numbers : List ℕ) → more ≡ with_transaction copies x → numbers ≡ set ++ x.number ∷ []
      → all_in (λ n. nat_le n base || is_among n set) (deps_of_block (block_of g d x)) ≡ true → IsLooselyChoosing g d base all next more numbers
  -- or not
  pub passed : all_in (λ n. nat_le n base || is_among n set) (deps_of_block (block_of g d x)) ≡ false → IsLooselyChoosing g d base all next copies set

pub has-after : (xs ys : List Descriptor) (x : Descriptor) → Has ys x → Has (xs ++ ys) x
has-after [] ys x has = has
has-after (y ∷ xs) ys x has = inr (has-after xs ys x has)

can-choose : (g : Geometry) (d : DriveState) (base : ℕ) (all left next : List (List Descriptor)) (copies : List (Option CopyPlace)) (set : List ℕ) (x : Descriptor) → (t : IsLooselyChoosing g d base all left copies set)
    → IsMerging (homes_of g) base all next (x ∷ t.taken) → CanChoose g d base all next copies set x
can-choose g d base all left next copies set x t merging =
    let xs = t.taken in
    let ns = numbers_of (standing (deps_shown g d xs) base xs) in
    let falls = merging.falling in
    let low : (e : Descriptor) → Has xs e → e.number < x.number = λ e has. falls-under base x.number xs e falls.2 has in
    let size : length copies ≡ homes_of g = ap length t.copies_are ∙ length-with_all (homes_of g) (standing (deps_shown g d xs) base xs) in
    let from = merging.from_gone x (inl refl) in
    let test : all_in (λ n. nat_le n base || is_among n set) (deps_of_block (block_of g d x)) ≡ all_in (in_set base (standing (deps_shown g d xs) base xs)) (deps_of_block (block_of g d x)) =
    all-same _ _ (deps_of_block (block_of g d x)) (λ n. ap (λ (t : Bool). nat_le n base || t) (ap (is_among n) t.set_is ∙ among-reverse n ns)) in
    record {
      good = subst (λ (n : ℕ). IsGood list_limit n x) (sym size) merging.good.0;
      own = from.0;
      has = subst (λ (l : List Descriptor). Has l x) (sym (merging.parts x.queue from.0)) (has-after (chain_at next x.queue) (merging.gone x.queue) x from.1);
      chosen = λ more numbers more_is numbers_are met.
          let next_is = stands-next g d base x xs low (sym test ∙ met) in
          record {
            taken = x ∷ xs;
            merging = merging;
            copies_are = more_is ∙ ap (λ (l : List (Option CopyPlace)). with_transaction l x) t.copies_are ∙ sym (ap (with_all (homes_of g)) next_is);
            set_is = numbers_are ∙ ap (λ (l : List ℕ). l ++ x.number ∷ []) t.set_is ∙ sym (reverse-append (x.number ∷ []) ns) ∙ sym (ap (λ (l : List Descriptor). reverse (numbers_of l)) next_is);
          };
      passed = λ not.
          let next_is = falls-next g d base x xs low (sym test ∙ not) in
          record {
            taken = x ∷ xs;
            merging = merging;
            copies_are = t.copies_are ∙ sym (ap (with_all (homes_of g)) next_is);
            set_is = t.set_is ∙ sym (ap (λ (l : List Descriptor). reverse (numbers_of l)) next_is);
          };
    }

pub can-go-on : (g : Geometry) (d : DriveState) (base : ℕ) (all left next : List (List Descriptor)) (copies : List (Option CopyPlace)) (set : List ℕ) (o : Option Descriptor) (x : Descriptor) → (t : IsLooselyChoosing g d base all left copies set)
    → MatchOption o (AreMerged (homes_of g) base all t.taken) (λ e. IsMerging (homes_of g) base all next (e ∷ t.taken)) → o ≡ Some x → CanChoose g d base all next copies set x
can-go-on g d base all left next copies set o x t found is =
    can-choose g d base all left next copies set x t (subst (λ (y : Option Descriptor). MatchOption y (AreMerged (homes_of g) base all t.taken) (λ e. IsMerging (homes_of g) base all next (e ∷ t.taken))) is found)

pub end-chosen : (g : Geometry) (d : DriveState) (base : ℕ) (all left next : List (List Descriptor)) (copies : List (Option CopyPlace)) (set : List ℕ) (o : Option Descriptor) (c : LooseChosen) → (t : IsLooselyChoosing g d base all left copies set)
    → MatchOption o (AreMerged (homes_of g) base all t.taken) (λ e. IsMerging (homes_of g) base all next (e ∷ t.taken)) → o ≡ None → c.copies.items ≡ copies → c.set.items ≡ set → IsLooselyChosen g d base all c
end-chosen g d base all left next copies set o c t found none items numbers = record {
  merged = t.taken;
  are_merged = subst (λ (y : Option Descriptor). MatchOption y (AreMerged (homes_of g) base all t.taken) (λ e. IsMerging (homes_of g) base all next (e ∷ t.taken))) none found;
  copies_are = items ∙ t.copies_are;
  set_is = numbers ∙ t.set_is;
}
