-- Paths below others, name by name.
use Rattle.std.proofs.Common.{◌≡◌, ℕ, zero, suc, ◌<◌, ◌≤◌, Bool, true, false, [], ◌∷◌, length, drop, refl, sym, ap, ◌∙◌, arith}
use Rattle.std.specs.Str.{bytes_eq}
use Rattle.std.specs.Prelude.{◌&&◌}
use Rattle.std.proofs.lemmas.List.{drop_all}
use Rattle.mq_tree.specs.Requests.{is_below}
use Rattle.mq_tree.specs.Volume.{Path}

and-false : (t : Bool) → false ≡ (t && false)
and-false true = refl
and-false false = refl

-- a path that isn't longer is not below
pub not-longer : (path below : Path) → length below ≤ length path → false ≡ is_below path below
not-longer [] [] l = refl
not-longer [] (name ∷ below) l = absurd (omega arith)
not-longer (name ∷ path) [] l = refl
not-longer (name ∷ path) (other ∷ below) l = and-false (bytes_eq name other) ∙ ap (λ (t : Bool). bytes_eq name other && t) (not-longer path below (omega arith))

below-rest : (below : Path) (k : ℕ) → k < length below → true ≡ is_below [] (drop k below)
below-rest [] k l = absurd (omega arith)
below-rest (name ∷ below) zero l = refl
below-rest (name ∷ below) (suc k) l = below-rest below k (omega arith)

-- past all names of the first, one of the second is left
pub names-past : (path below : Path) (k : ℕ) → length path ≤ k → k < length below → is_below (drop k path) (drop k below) ≡ is_below path below → true ≡ is_below path below
names-past path below k past l e = below-rest below k l ∙ ap (λ (p : Path). is_below p (drop k below)) (sym (drop_all k path past)) ∙ e
