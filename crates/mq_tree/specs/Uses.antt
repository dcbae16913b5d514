-- The blocks that a volume uses, and the links of its inodes.
use Rattle.std.specs.Prelude.{◌≡◌, ◌<◌, ◌≤◌, ℕ, Some}
use Rattle.mq_blocks.specs.Geometry.{homes_of, meta_of}
use Rattle.mq_blocks.specs.declared.geometry.Geometry.{Geometry}
use Rattle.mq_tree.specs.Links.{HasLinks}
use Rattle.mq_tree.specs.Volume.{Volume, Use, block_in, body, node}

-- Each block that is used lies in a zone, and is used once. Links are in their range.
pub record AreUses (g : Geometry) (v : Volume) : Type 0 where
  pub zones : (u : Use) (b : ℕ) → block_in v u ≡ Some b → (meta_of g ≤ b) × (b < homes_of g)
  pub apart : (u w : Use) (b : ℕ) → block_in v u ≡ Some b → block_in v w ≡ Some b → u ≡ w
  pub links : (i : ℕ) → HasLinks (body v i) (node v i).links
