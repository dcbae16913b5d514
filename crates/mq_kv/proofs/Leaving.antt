-- Those who leave a desk where nobody else sits.
use Rattle.std.proofs.Common.{◌≡◌, List, [], ◌++◌, map, ap, ◌∙◌, append-nil}

pub left-alone : {A B C : Type 0} (part : B → A) (other : C → A) (bs : List B) (none : List C) (all : List A) → all ≡ map part bs ++ map other none → none ≡ [] → all ≡ map part bs
left-alone {A} {B} {C} part other bs none all is empty = is ∙ (ap (λ (cs : List C). map part bs ++ map other cs) empty ∙ append-nil (map part bs))
