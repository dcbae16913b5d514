-- The state of a port that starts from an image.
use Rattle.std.specs.Prelude.{◌≡◌, ◌<◌, ℕ, ◌+◌, [], true, length, slice_index_or, replicate, Option}
use Rattle.mq_blocks.specs.Drive.{FuseName, PortState, PortImage, IsFlushed}
use Rattle.mq_blocks.specs.declared.geometry.Geometry.{Geometry}
use Rattle.mq_blocks.specs.Ports as ports
use Rattle.mq_drive.specs.Choices.{Chance, generator_of}
use Rattle.mq_drive.specs.Roles.{queue_in, slots_of}
use Rattle.mq_drive.specs.declared.role.Role.{Role}
use Rattle.mq_drive.specs.declared.role.Role.TheVariants.{Queue, Root}

abbrev pub area_first_of : Geometry → Role → ℕ
area_first_of g role = ports.area_first_of g (queue_in role)

abbrev pub area_size_of : Geometry → Role → ℕ
area_size_of g role = ports.area_size_of g (queue_in role)

abbrev pub homes_first_of : Geometry → Role → ℕ
homes_first_of g role = ports.homes_first_of g (queue_in role)

abbrev pub homes_size_of : Geometry → Role → ℕ
homes_size_of g role = ports.homes_size_of g (queue_in role)

-- the number of a port: the queue's, or of the root the count of queues
abbrev pub number_of : Geometry → Role → ℕ
number_of g (Queue q) = q
number_of g Root = g.queues

-- the role is one of the geometry's
abbrev pub IsRole : Geometry → Role → Type 0
IsRole g (Queue q) = q < g.queues
IsRole g Root = Unit {0}

-- a queue has as many slots as a ring is deep, and base 0; the root has no slots, doorbell 0 and head 0
abbrev pub HasWords : Role → PortImage → Type 0
HasWords (Queue q) i = i.base ≡ 0
HasWords Root i = (i.doorbell ≡ 0) × (i.head ≡ 0)

pub record IsImageOf (g : Geometry) (role : Role) (i : PortImage) : Type 0 where
  pub slots : length i.slots ≡ slots_of role
  pub blocks : length i.blocks ≡ area_size_of g role + homes_size_of g role
  pub words : HasWords role i

-- nothing is under way, and all is certain as in the image
abbrev pub start_of : Geometry → Role → PortImage → FuseName → Option ℕ → PortState
start_of g role i fuse fail = record {
  queue = queue_in role;
  area_first = area_first_of g role;
  area_size = area_size_of g role;
  homes_first = homes_first_of g role;
  homes_size = homes_size_of g role;
  flushed = i.slots;
  staged = i.slots;
  flushed_end = i.doorbell;
  pending = [];
  doorbell = i.doorbell;
  posted = [];
  failed = [];
  head = i.head;
  stored_head = i.head;
  base = i.base;
  stored_base = i.base;
  blocks = i.blocks;
  certain = replicate (length i.blocks) true;
  begun = [];
  rings = 0;
  begins = 0;
  events = 0;
  fuse = fuse;
  fail = fail;
}

-- each port has a generator of its own, and no block is uncertain
abbrev pub chance_at_start : Geometry → Role → (seed : ℕ) → Chance
chance_at_start g role seed = record {
  number = number_of g role;
  order = generator_of seed (number_of g role);
  failed = [];
  begun = [];
}

-- a port of this role, on a drive of this geometry
pub record IsPortOf (g : Geometry) (role : Role) (s : PortState) : Type 0 where
  pub queue : s.queue ≡ queue_in role
  pub area_first : s.area_first ≡ area_first_of g role
  pub area_size : s.area_size ≡ area_size_of g role
  pub homes_first : s.homes_first ≡ homes_first_of g role
  pub homes_size : s.homes_size ≡ homes_size_of g role
  pub flushed : length s.flushed ≡ slots_of role
  pub staged : length s.staged ≡ slots_of role
  pub blocks : length s.blocks ≡ area_size_of g role + homes_size_of g role
  pub certain : length s.certain ≡ length s.blocks
  pub settled : (k : ℕ) → k < length s.flushed → IsFlushed s k
      → slice_index_or s.flushed k [] ≡ slice_index_or s.staged k []
