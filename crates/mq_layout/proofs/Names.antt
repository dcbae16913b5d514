-- The test of a name decides whether it is good.
use Rattle.std.proofs.Common.{◌≡◌, ◌≢◌, ℕ, List, Bool, true, false, refl}
use Rattle.std.specs.Prelude.{not}
use Rattle.std.specs.Str.{bytes_eq}
use Rattle.std.proofs.lemmas.Bool.{leb-true, le-leb, and_from, and_parts}
use Rattle.std.proofs.lemmas.Slice.Eq.{bytes_eq-Decides}
use Rattle.mq_layout.specs.Names.{IsName, is_name}

not-true : (a : Bool) → not a ≡ true → a ≡ true → ⊥
not-true true n e = absurd (cc)
not-true false n e = absurd (cc)

not-false : (a : Bool) → (a ≡ true → ⊥) → not a ≡ true
not-false true n = absurd (n refl)
not-false false n = refl

other : (xs ys : List ℕ) → not (bytes_eq xs ys) ≡ true → xs ≢ ys
other xs ys n e = let d = bytes_eq-Decides xs ys in not-true _ n (d.1 e)

others : (xs ys : List ℕ) → xs ≢ ys → not (bytes_eq xs ys) ≡ true
others xs ys n = let d = bytes_eq-Decides xs ys in not-false _ (λ e. n (d.0 e))

pub name-good : (name : List ℕ) → is_name name ≡ true → IsName name
unfolding is_name
name-good name h =
    let h₄ = (and_parts _ _ h).0 in
    let h₃ = (and_parts _ _ h₄).0 in
    let h₂ = (and_parts _ _ h₃).0 in
    record {
      some = leb-true _ _ (and_parts _ _ h₂).0;
      few = leb-true _ _ (and_parts _ _ h₂).1;
      letters = (and_parts _ _ h₃).1;
      not_dot = other _ _ (and_parts _ _ h₄).1;
      not_dots = other _ _ (and_parts _ _ h).1;
    }

pub name-right : (name : List ℕ) → IsName name → is_name name ≡ true
unfolding is_name
name-right name g =
    and_from _ _ (and_from _ _ (and_from _ _ (and_from _ _ (le-leb _ _ g.some) (le-leb _ _ g.few)) g.letters) (others _ _ g.not_dot)) (others _ _ g.not_dots)
