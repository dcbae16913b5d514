-- The part of the drive that a port has: a queue's, or the root's, which is no queue's.
use Rattle.std.specs.Prelude.{◌≡◌, ℕ, ◌+◌, ◌*◌, length, Option, Some, None}
use Rattle.mq_blocks.specs.Drive.{PortState}
use Rattle.mq_blocks.specs.Limits.{depth}
use Rattle.mq_blocks.specs.declared.geometry.Geometry.{Geometry}

abbrev pub area_first_of : Geometry → Option ℕ → ℕ
area_first_of g (Some q) = q * g.area
area_first_of g None = 0

abbrev pub area_size_of : Geometry → Option ℕ → ℕ
area_size_of g (Some q) = g.area
area_size_of g None = 0

abbrev pub homes_first_of : Geometry → Option ℕ → ℕ
homes_first_of g (Some q) = g.queues * g.area + (g.meta + q * g.zone)
homes_first_of g None = g.queues * g.area

abbrev pub homes_size_of : Geometry → Option ℕ → ℕ
homes_size_of g (Some q) = g.zone
homes_size_of g None = g.meta

-- the slots of its ring: the root has none
abbrev pub slots_of : Option ℕ → ℕ
slots_of (Some q) = depth
slots_of None = 0

pub record IsPort (g : Geometry) (z : Option ℕ) (p : PortState) : Type 0 where
  pub queue : p.queue ≡ z
  pub area_first : p.area_first ≡ area_first_of g z
  pub area_size : p.area_size ≡ area_size_of g z
  pub homes_first : p.homes_first ≡ homes_first_of g z
  pub homes_size : p.homes_size ≡ homes_size_of g z
  pub flushed : length p.flushed ≡ slots_of z
  pub staged : length p.staged ≡ slots_of z
  pub blocks : length p.blocks ≡ area_size_of g z + homes_size_of g z
  pub certain : length p.certain ≡ area_size_of g z + homes_size_of g z
