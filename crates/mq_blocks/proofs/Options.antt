-- The two cases of an option.
use Rattle.std.proofs.Common.{◌≡◌, ◌⊎◌, inl, inr, refl, false}
use Rattle.std.specs.Prelude.{Option, Some, None, is_some}
use Rattle.std.proofs.lemmas.Bool.{true≢false}

pub option-cases : {A : Type 0} (o : Option A) → (o ≡ None) ⊎ ((x : A) × (o ≡ Some x))
option-cases {A} None = inl refl
option-cases {A} (Some x) = inr (x, refl)

pub none-of : {A : Type 0} (o : Option A) → is_some o ≡ false → o ≡ None
none-of {A} None e = refl
none-of {A} (Some x) e = absurd (true≢false e)
