-- A port stays the one of its part of the drive.
use Rattle.std.proofs.Common.{◌≡◌, ℕ, Option, length, ap, ◌∙◌}
use Rattle.mq_blocks.specs.Drive.{PortState}
use Rattle.mq_blocks.specs.Ports.{IsPort}
use Rattle.mq_blocks.specs.declared.geometry.Geometry.{Geometry}

-- what of a port says which part of the drive it has: its queue, where its blocks lie, and how many slots
-- and blocks there are of each kind
pub record Parts : Type 0 where
  pub queue : Option ℕ
  pub area_first : ℕ
  pub area_size : ℕ
  pub homes_first : ℕ
  pub homes_size : ℕ
  pub flushed : ℕ
  pub staged : ℕ
  pub blocks : ℕ
  pub certain : ℕ

abbrev pub parts_of : PortState → Parts
parts_of p = record {
  queue = p.queue;
  area_first = p.area_first;
  area_size = p.area_size;
  homes_first = p.homes_first;
  homes_size = p.homes_size;
  flushed = length p.flushed;
  staged = length p.staged;
  blocks = length p.blocks;
  certain = length p.certain;
}

-- a port of the same parts is a port of the same part of the drive
pub port-along : {g : Geometry} {z : Option ℕ} {p r : PortState} → IsPort g z p → parts_of r ≡ parts_of p → IsPort g z r
port-along is same = record {
  queue = ap (λ x. x.queue) same ∙ is.queue;
  area_first = ap (λ x. x.area_first) same ∙ is.area_first;
  area_size = ap (λ x. x.area_size) same ∙ is.area_size;
  homes_first = ap (λ x. x.homes_first) same ∙ is.homes_first;
  homes_size = ap (λ x. x.homes_size) same ∙ is.homes_size;
  flushed = ap (λ x. x.flushed) same ∙ is.flushed;
  staged = ap (λ x. x.staged) same ∙ is.staged;
  blocks = ap (λ x. x.blocks) same ∙ is.blocks;
  certain = ap (λ x. x.certain) same ∙ is.certain;
}
