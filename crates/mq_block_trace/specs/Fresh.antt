-- The drive of block texts.
use Rattle.std.specs.Prelude.{◌≡◌}
use Rattle.mq_blocks.specs.declared.geometry.Geometry.{Geometry}

-- the geometry of block texts: one queue with the smallest journal area, and 256 home blocks
pub record IsTextGeometry (g : Geometry) : Type 0 where
  pub queues : g.queues ≡ 1
  pub area : g.area ≡ 1024
  pub meta : g.meta ≡ 16
  pub zone : g.zone ≡ 240
