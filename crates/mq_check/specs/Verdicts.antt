-- What a check says of stored home blocks.
use Rattle.std.specs.Prelude.{◌≡◌, ℕ}
use Rattle.mq_blocks.specs.declared.geometry.Geometry.{Geometry}
use Rattle.mq_check.specs.Totals.{HasTotals}
use Rattle.mq_check.specs.declared.verdict.Verdict.{Verdict}
use Rattle.mq_check.specs.declared.verdict.Verdict.TheVariants.{Sound, Unsound}
use Rattle.mq_tree.specs.Decoded.{Stored}
use Rattle.mq_tree.specs.Laid.{IsLaid, IsTreeOf, map_of}
use Rattle.mq_tree.specs.Phases.{IsFirst}
use Rattle.mq_tree.specs.Volume.{Things, Volume}
use Rattle.mq_tree.specs.declared.corrupt.PhaseRefusal.{PhaseRefusal}
use Rattle.mq_tree.specs.declared.corrupt.PhaseRefusal.TheVariants.{Found}

-- The blocks have a tree, and the volume that lies on them has so many.
pub record HasTree (g : Geometry) (s : Stored) (dirs files blocks : ℕ) : Type 0 where
  pub tree : Things
  pub is : IsTreeOf g (map_of g s) tree
  pub totals : (v : Volume) → IsLaid g (map_of g s) v → HasTotals g v dirs files blocks

abbrev pub HasNoTree : Geometry → Stored → Type 0
HasNoTree g s = (t : Things) → IsTreeOf g (map_of g s) t → ⊥

-- the verdict is right
abbrev pub Judges : Geometry → Stored → Verdict → Type 0
Judges g s (Sound dirs files blocks) = HasTree g s dirs files blocks
Judges g s (Unsound phase cause b) = IsFirst g s phase cause b × HasNoTree g s

-- the verdict is what a mount found
abbrev pub Repeats : PhaseRefusal → Verdict → Type 0
Repeats r (Sound dirs files blocks) = ⊥
Repeats r (Unsound phase cause b) = r ≡ Found phase cause b
