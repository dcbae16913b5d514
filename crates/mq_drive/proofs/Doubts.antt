-- Which blocks are uncertain.
use Rattle.std.proofs.Common.{◌≡◌, ◌≢◌, ◌<◌, ℕ, zero, suc, Bool, true, false, List, [], ◌∷◌, length, get_or, set, Option, Some, None, is_some, refl, sym, ◌∙◌, ap, subst, arith, eqb, eq-eqb, true≢false}
use Rattle.std.proofs.lemmas.List.{get_or-set_other}
use Rattle.std.proofs.Math.ListN.{length-set}
use Rattle.std.specs.Option.{ForSome, option_eq}

still_false : (flags : List Bool) (i j : ℕ) → get_or flags j false ≡ false → get_or (set flags i false) j false ≡ false
still_false [] i j is = is
still_false (f ∷ fs) zero zero is = refl
still_false (f ∷ fs) zero (suc j) is = is
still_false (f ∷ fs) (suc i) zero is = is
still_false (f ∷ fs) (suc i) (suc j) is = still_false fs i j is

-- what another write that begins or fails leaves uncertain
pub doubt_begin : (doubt : Option ℕ) (flags more : List Bool) (i : ℕ) → more ≡ set flags i false
    → ForSome doubt (λ k. (k < length flags) × (get_or flags k false ≡ false)) → ForSome doubt (λ k. (k < length more) × (get_or more k false ≡ false))
doubt_begin doubt flags more i is old k some =
    let long : length more ≡ length flags = ap length is ∙ length-set flags i false in
    (let within = (old k some).0 in omega (arith, long, within), ap (λ (l : List Bool). get_or l k false) is ∙ still_false flags i k (old k some).1)

-- what a completed write of another block leaves uncertain
pub doubt_complete : (doubt : Option ℕ) (flags more : List Bool) (i : ℕ) → more ≡ set flags i true → (doubt ≡ Some i → ⊥)
    → ForSome doubt (λ k. (k < length flags) × (get_or flags k false ≡ false)) → ForSome doubt (λ k. (k < length more) × (get_or more k false ≡ false))
doubt_complete doubt flags more i is apart old k some =
    let long : length more ≡ length flags = ap length is ∙ length-set flags i true in
    let other : k ≢ i = λ at. apart (some ∙ ap (λ (n : ℕ). Some n) at) in
    (let within = (old k some).0 in omega (arith, long, within), ap (λ (l : List Bool). get_or l k false) is ∙ get_or-set_other flags i k true false other ∙ (old k some).1)

pub none_while : {A : Type 0} (o : Option A) (n : ℕ) → ForSome o (λ x. 0 < n) → n ≡ 0 → o ≡ None
none_while None n some is = refl
none_while (Some x) n some is = let bad = some x refl in absurd (omega (arith, bad, is))

pub none_eq : (o : Option ℕ) (k : ℕ) → false ≡ option_eq eqb o (Some k) → o ≡ Some k → ⊥
none_eq o k is at = true≢false (sym (is ∙ ap (λ (x : Option ℕ). option_eq eqb x (Some k)) at ∙ eq-eqb k k refl))

pub none_for : {A : Type 0} (o : Option A) (P : A → Type 0) → o ≡ None → ForSome o P
none_for o P none x is = absurd (true≢false (ap is_some (sym is ∙ none)))

value_or : {A : Type 0} → A → Option A → A
value_or d None = d
value_or d (Some x) = x

pub some_for : {A : Type 0} (x : A) (P : A → Type 0) → P x → ForSome (Some x) P
unfolding value_or
some_for x P holds y is = subst P (ap (value_or x) is) holds

pub false_at : (flags : List Bool) (i : ℕ) → get_or (set flags i false) i false ≡ false
false_at [] i = refl
false_at (f ∷ fs) zero = refl
false_at (f ∷ fs) (suc i) = false_at fs i
