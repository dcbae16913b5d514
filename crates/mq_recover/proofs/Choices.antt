-- The transactions right above the base, of those that are taken by rising number.
use Rattle.std.proofs.Common.{◌≡◌, ◌≢◌, ◌<◌, ◌≤◌, inl, inr, ℕ, ◌+◌, ◌-◌, ◌^◌, List, [], ◌∷◌, length, Option, Some, None, MatchOption, refl, sym, ◌∙◌, ap, subst, arith}
use Rattle.std.proofs.lemmas.Bool.{cases_eq, eq-eqb, ne_eqb}
use Rattle.mq_blocks.specs.Descriptor.{Descriptor, IsGood}
use Rattle.mq_blocks.specs.Limits.{list_limit}
use Rattle.mq_blocks.specs.Journal.{Has, AreInRow}
use Rattle.mq_recover.specs.Choices.{run_of, IsChosen}
use Rattle.mq_recover.specs.Copies.{with_transaction, with_all}
use Rattle.mq_recover.specs.Merges.{AreMerged, IsMerging}
use Rattle.mq_recover.specs.Queues.{AreChains}
use Rattle.mq_recover.specs.Recover.{AreGood, AreFalling}
use Rattle.mq_recover.specs.declared.choice.Chosen.{Chosen}
use Rattle.mq_recover.specs.declared.copies.CopyPlace.{CopyPlace}
use Rattle.mq_recover.proofs.Merges.{falls-under, none-taken}
use Rattle.mq_recover.proofs.RecoverCopies.{length-with_all}

-- ---- the run

-- the next of the run
run-next : (base : ℕ) (d : Descriptor) (ds : List Descriptor) → d.number ≡ base + length (run_of base ds) + 1 → run_of base (d ∷ ds) ≡ d ∷ run_of base ds
run-next base d ds is = rw (eq-eqb d.number (base + length (run_of base ds) + 1) is) refl

-- one after a gap
run-gap : (base : ℕ) (d : Descriptor) (ds : List Descriptor) → d.number ≢ base + length (run_of base ds) + 1 → run_of base (d ∷ ds) ≡ run_of base ds
run-gap base d ds apart = rw (ne_eqb d.number (base + length (run_of base ds) + 1) apart) refl

pub run-has : (base : ℕ) (ds : List Descriptor) (d : Descriptor) → Has (run_of base ds) d → Has ds d
run-has base [] d has = has
run-has base (e ∷ ds) d has = elim (cases_eq e.number (base + length (run_of base ds) + 1)) [
  | inl is ↦ elim (subst (λ (l : List Descriptor). Has l d) (run-next base e ds is) has) [ inl h ↦ inl h | inr h ↦ inr (run-has base ds d h) ]
  | inr apart ↦ inr (run-has base ds d (subst (λ (l : List Descriptor). Has l d) (run-gap base e ds apart) has))
]

pub run-row : (base : ℕ) (ds : List Descriptor) → AreInRow base (run_of base ds)
run-row base [] = tt
run-row base (d ∷ ds) = elim (cases_eq d.number (base + length (run_of base ds) + 1)) [
  | inl is ↦ subst (AreInRow base) (sym (run-next base d ds is)) (is, run-row base ds)
  | inr apart ↦ subst (AreInRow base) (sym (run-gap base d ds apart)) (run-row base ds)
]

pub run-good : (homes base : ℕ) (ds : List Descriptor) → AreGood homes ds → AreGood homes (run_of base ds)
run-good homes base [] good = tt
run-good homes base (d ∷ ds) good = elim (cases_eq d.number (base + length (run_of base ds) + 1)) [
  | inl is ↦ subst (AreGood homes) (sym (run-next base d ds is)) (good.0, run-good homes base ds good.1)
  | inr apart ↦ subst (AreGood homes) (sym (run-gap base d ds apart)) (run-good homes base ds good.1)
]

-- a transaction above all of these is above their run
pub run-below : (base high : ℕ) (ds : List Descriptor) → AreFalling base high ds → base < high → base + length (run_of base ds) < high
run-below base high [] falls above = omega (arith, above)
run-below base high (d ∷ ds) falls above = elim (cases_eq d.number (base + length (run_of base ds) + 1)) [
  | inl is ↦
      let run = ap length (run-next base d ds is) in
      let long : length (run_of base (d ∷ ds)) ≡ length (run_of base ds) + 1 = omega (arith, run) in
      let b = falls.1 in
      omega (arith, long, is, b)
  | inr apart ↦
      let same : length (run_of base (d ∷ ds)) ≡ length (run_of base ds) = ap length (run-gap base d ds apart) in
      let b = falls.1 in
      let c = run-below base d.number ds falls.2 falls.0 in
      omega (arith, same, b, c)
]

-- none of these is the next of the run
pub run-greatest : (base high : ℕ) (ds : List Descriptor) (e : Descriptor) → AreFalling base high ds → Has ds e → e.number ≢ base + length (run_of base ds) + 1
run-greatest base high [] e falls has = absurd has
run-greatest base high (d ∷ ds) e falls has = elim (cases_eq d.number (base + length (run_of base ds) + 1)) [
  | inl is ↦ λ same.
      let run = ap length (run-next base d ds is) in
      let long : length (run_of base (d ∷ ds)) ≡ length (run_of base ds) + 1 = omega (arith, run) in
      elim has [
        | inl h ↦ let number : d.number ≡ e.number = ap (λ (z : Descriptor). z.number) h in omega (arith, same, long, is, number)
        | inr h ↦ let b = falls-under base d.number ds e falls.2 h in omega (arith, same, long, is, b)
      ]
  | inr apart ↦ λ same.
      let short : length (run_of base (d ∷ ds)) ≡ length (run_of base ds) = ap length (run-gap base d ds apart) in
      elim has [
        | inl h ↦ let number : d.number ≡ e.number = ap (λ (z : Descriptor). z.number) h in apart (omega (arith, same, short, number))
        | inr h ↦ run-greatest base d.number ds e falls.2 h (omega (arith, same, short))
      ]
]

-- ---- as the loop has it

-- These chains are left, and the copies are those of the run of what was taken.
pub record IsChoosing (homes base : ℕ) (all left : List (List Descriptor)) (copies : List (Option CopyPlace)) (prefix : ℕ) : Type 0 where
  pub taken : List Descriptor
  pub merging : IsMerging homes base all left taken
  pub copies_are : copies ≡ with_all homes (run_of base taken)
  pub prefix_is : prefix ≡ length (run_of base taken)

pub none-chosen : (homes base : ℕ) (all : List (List Descriptor)) (copies : List (Option CopyPlace)) → AreChains homes base all → copies ≡ with_all homes [] → IsChoosing homes base all all copies 0
none-chosen homes base all copies chains is = record { taken = []; merging = none-taken homes base all chains; copies_are = is; prefix_is = refl }

-- what the next transaction meets, and what is chosen after it
pub record CanChoose (homes base : ℕ) (all next : List (List Descriptor)) (copies : List (Option CopyPlace)) (prefix : ℕ) (d : Descriptor) : Type 0 where
  pub good : IsGood list_limit (length copies) d
  pub above : base < d.number
  pub high : base + prefix < d.number
  pub number : d.number < 2 ^ 64
  -- it is in the row
  pub chosen : (more : List (Option CopyPlace)) → more ≡ with_transaction copies d → d.number - base ≡ prefix + 1 → IsChoosing homes base all next more (prefix + 1)
  -- there is a gap before it
  pub passed : d.number - base ≢ prefix + 1 → IsChoosing homes base all next copies prefix

pub can-choose : (homes base : ℕ) (all left next : List (List Descriptor)) (copies : List (Option CopyPlace)) (prefix : ℕ) (d : Descriptor) → (t : IsChoosing homes base all left copies prefix)
    → IsMerging homes base all next (d ∷ t.taken) → CanChoose homes base all next copies prefix d
can-choose homes base all left next copies prefix d t merging =
    let prefix_is = t.prefix_is in
    let falls = merging.falling in
    let above = falls.0 in
    let high = run-below base d.number t.taken falls.2 falls.0 in
    let size : length copies ≡ homes = ap length t.copies_are ∙ length-with_all homes (run_of base t.taken) in
    record {
      good = subst (λ (n : ℕ). IsGood list_limit n d) (sym size) merging.good.0;
      above = above;
      high = omega (arith, high, prefix_is);
      number = falls.1;
      chosen = λ more more_is next_number.
          let is : d.number ≡ base + length (run_of base t.taken) + 1 = omega (arith, next_number, high, prefix_is) in
          let run = run-next base d t.taken is in
          record {
            taken = d ∷ t.taken;
            merging = merging;
            copies_are = more_is ∙ ap (λ (l : List (Option CopyPlace)). with_transaction l d) t.copies_are ∙ sym (ap (with_all homes) run);
            prefix_is = let long = ap length run in omega (arith, long, prefix_is);
          };
      passed = λ far.
          let apart : d.number ≢ base + length (run_of base t.taken) + 1 = λ is. far (omega (arith, is, prefix_is)) in
          let run = run-gap base d t.taken apart in
          record {
            taken = d ∷ t.taken;
            merging = merging;
            copies_are = t.copies_are ∙ sym (ap (with_all homes) run);
            prefix_is = prefix_is ∙ sym (ap length run);
          };
    }

pub can-go-on : (homes base : ℕ) (all left next : List (List Descriptor)) (copies : List (Option CopyPlace)) (prefix : ℕ) (o : Option Descriptor) (d : Descriptor) → (t : IsChoosing homes base all left copies prefix)
    → MatchOption o (AreMerged homes base all t.taken) (λ e. IsMerging homes base all next (e ∷ t.taken)) → o ≡ Some d → CanChoose homes base all next copies prefix d
can-go-on homes base all left next copies prefix o d t found is =
    can-choose homes base all left next copies prefix d t (subst (λ (x : Option Descriptor). MatchOption x (AreMerged homes base all t.taken) (λ e. IsMerging homes base all next (e ∷ t.taken))) is found)

pub end-chosen : (homes base : ℕ) (all left next : List (List Descriptor)) (copies : List (Option CopyPlace)) (prefix : ℕ) (o : Option Descriptor) (c : Chosen) → (t : IsChoosing homes base all left copies prefix)
    → MatchOption o (AreMerged homes base all t.taken) (λ e. IsMerging homes base all next (e ∷ t.taken)) → o ≡ None → c.copies.items ≡ copies → c.prefix ≡ prefix → IsChosen homes base all c
end-chosen homes base all left next copies prefix o c t found none items prefix_is = record {
  merged = t.taken;
  are_merged = subst (λ (x : Option Descriptor). MatchOption x (AreMerged homes base all t.taken) (λ e. IsMerging homes base all next (e ∷ t.taken))) none found;
  copies_are = items ∙ t.copies_are;
  prefix_is = prefix_is ∙ t.prefix_is;
}
