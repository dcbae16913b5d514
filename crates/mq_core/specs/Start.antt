-- The state that the machine starts from, over given home blocks and a base.
use Rattle.std.specs.Prelude.{ℕ, ◌+◌, ◌-◌, ◌*◌, ◌^◌, zero, suc, true, List, [], ◌∷◌, ◌++◌, Option, Some, None, replicate, take, drop}
use Rattle.mq_blocks.specs.Drive.{no_fuse, PortState}
use Rattle.mq_blocks.specs.Ports.{area_first_of, area_size_of, homes_first_of, homes_size_of, slots_of}
use Rattle.mq_blocks.specs.declared.geometry.Geometry.{Geometry}
use Rattle.mq_ledger.specs.State.{State}

-- the first home block of a port
abbrev pub first_home : Geometry → Option ℕ → ℕ
first_home g (Some q) = g.meta + q * g.zone
first_home g None = 0

-- a slot that was never staged
abbrev pub blank : List ℕ
blank = 0 ∷ 0 ∷ 0 ∷ []

-- a port where nothing has happened yet: its area and its slots are empty, and these are its home blocks
abbrev pub port_over : Geometry → Option ℕ → List (Option (List ℕ)) → ℕ → PortState
port_over g z homes base = record {
  queue = z;
  area_first = area_first_of g z;
  area_size = area_size_of g z;
  homes_first = homes_first_of g z;
  homes_size = homes_size_of g z;
  flushed = replicate (slots_of z) blank;
  staged = replicate (slots_of z) blank;
  flushed_end = 0;
  pending = [];
  doorbell = 0;
  posted = [];
  failed = [];
  head = 0;
  stored_head = 0;
  base = base;
  stored_base = base;
  blocks = replicate (area_size_of g z) None ++ homes;
  certain = replicate (area_size_of g z + homes_size_of g z) true;
  begun = [];
  rings = 0;
  begins = 0;
  events = 0;
  fuse = no_fuse;
  fail = None;
}

-- the one that has its part of all home blocks
abbrev pub fresh_port : Geometry → List (Option (List ℕ)) → ℕ → Option ℕ → PortState
fresh_port g blocks base z = port_over g z (take (homes_size_of g z) (drop (first_home g z) blocks)) base

-- the ports of the queues from this one on
abbrev pub fresh_ports : Geometry → List (Option (List ℕ)) → ℕ → ℕ → List PortState
fresh_ports g blocks q zero = []
fresh_ports g blocks q (suc n) = fresh_port g blocks 0 (Some q) ∷ fresh_ports g blocks (q + 1) n

abbrev pub start_state : Geometry → List (Option (List ℕ)) → ℕ → State
start_state g blocks base = record {
  geometry = g;
  start = blocks;
  base = base;
  starts = replicate g.queues 0;
  history = [];
  ports = fresh_ports g blocks 0 g.queues;
  root = fresh_port g blocks base None;
  marks = replicate g.queues (2 ^ 64 - 1);
  writing = [];
  acknowledged = [];
}
