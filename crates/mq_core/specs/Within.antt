-- A block that a port has.
use Rattle.std.specs.Prelude.{◌<◌, ◌≤◌, ℕ, ◌+◌, ◌^◌, length}
use Rattle.mq_blocks.specs.Drive.{PortState, index_of}

pub record IsWithin (p : PortState) (lba : ℕ) : Type 0 where
  pub area : lba < p.homes_first → p.area_first ≤ lba
  pub small : p.area_size + lba < 2 ^ 32
  pub blocks : index_of p lba < length p.blocks
  pub certain : index_of p lba < length p.certain
