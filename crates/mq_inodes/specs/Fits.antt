-- Volumes of which pages may be a part.
use Rattle.std.specs.Prelude.{◌≡◌, ℕ, List, Some, None}
use Rattle.mq_blocks.specs.declared.geometry.Geometry.{Geometry}
use Rattle.mq_inodes.specs.Pages.{Pages}
use Rattle.mq_tree.specs.Laid.{IsVacant, ShowsPage}
use Rattle.mq_tree.specs.Sound.{IsSound}
use Rattle.mq_tree.specs.Volume.{Volume}

-- The pages are part of some map on which the volume lies.
pub record Fits (g : Geometry) (pages : Pages) (v : Volume) : Type 0 where
  -- each content that is held is what the volume shows there
  pub held : (b : ℕ) (page : List ℕ) → pages b ≡ Some (Some page) → ShowsPage g v b page
  -- and where a block is known to be free, the volume has none
  pub free : (b : ℕ) → pages b ≡ Some None → IsVacant g v b

-- The volume may be the one that the pages are of.
pub record Agrees (g : Geometry) (pages : Pages) (v : Volume) : Type 0 where
  pub sound : IsSound g v
  pub fits : Fits g pages v

-- The pages are of some volume.
abbrev pub IsPossible : Geometry → Pages → Type 0
IsPossible g pages = (v : Volume) × Agrees g pages v
