-- A store that was opened with one session.
use Rattle.std.proofs.Common.{◌≡◌, List, [], ◌∷◌, ◌++◌, length, ◌∙◌, ap, arith}
use Rattle.std.specs.Prelude.{Some, slice_get}
use Rattle.std.proofs.lemmas.List.{length_push}

-- the only one of a list is its last
pub only-one : {X : Type 0} (xs before : List X) (x : X) → xs ≡ before ++ x ∷ [] → length xs ≡ 1 → slice_get xs 0 ≡ Some x
only-one {X} xs [] x is one = ap (λ (l : List X). slice_get l 0) is
only-one xs (y ∷ before) x is one =
    let many = ap length is ∙ length_push (y ∷ before) x in
    absurd (omega (arith, one, many))
