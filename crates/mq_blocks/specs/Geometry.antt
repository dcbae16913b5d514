-- Where blocks lie on namespace 1: the journal areas of the queues first, then the home blocks,
-- which are the metadata region and then one zone for each queue.
use Rattle.std.specs.Prelude.{◌≤◌, ℕ, ◌+◌, ◌-◌, ◌*◌, ◌/◌, ◌%◌, Option, Some, None, nat_lt, if◌then◌else◌}
use Rattle.mq_blocks.specs.declared.geometry.Geometry.{Geometry}
use Rattle.mq_blocks.specs.Limits.{list_limit}

abbrev pub IsQueues : ℕ → Type 0
IsQueues queues = (1 ≤ queues) × (queues ≤ 16)

abbrev pub IsArea : ℕ → Type 0
IsArea area = (1024 ≤ area) × (area ≤ 16384)

abbrev pub AreHomes : (queues meta zone : ℕ) → Type 0
AreHomes queues meta zone = (queues + 3 ≤ meta) × (1 ≤ zone) × (meta + queues * zone ≤ 32768)

-- the geometry of these numbers
abbrev pub shaped : (queues area meta zone : ℕ) → IsQueues queues → IsArea area → AreHomes queues meta zone
    → Geometry
shaped queues area meta zone are_queues is_area are_homes = record {
  queues = queues;
  area = area;
  meta = meta;
  zone = zone;
  queues_low = are_queues.0;
  queues_high = are_queues.1;
  area_low = is_area.0;
  area_high = is_area.1;
  meta_low = are_homes.0;
  zone_low = are_homes.1;
  homes_high = are_homes.2;
}

abbrev pub queues_of : Geometry → ℕ
queues_of g = g.queues

-- the blocks of one queue's journal area
abbrev pub area_of : Geometry → ℕ
area_of g = g.area

-- the most blocks that one transaction writes on such a drive
unfoldable pub write_limit : Geometry → ℕ
write_limit g = if nat_lt g.area (list_limit + 24) then g.area - 24 else list_limit

-- the blocks of the metadata region
abbrev pub meta_of : Geometry → ℕ
meta_of g = g.meta

-- the home blocks of one zone
abbrev pub zone_size : Geometry → ℕ
zone_size g = g.zone

-- the number of home blocks
abbrev pub homes_of : Geometry → ℕ
homes_of g = g.meta + g.queues * g.zone

-- the Lba of a home block
abbrev pub home_lba : Geometry → ℕ → ℕ
home_lba g b = g.queues * g.area + b

-- the Lba of a place of a queue
abbrev pub area_lba : Geometry → ℕ → ℕ → ℕ
area_lba g q place = q * g.area + place % g.area

-- the queue in whose zone a home block is; the blocks of the metadata region are in none
abbrev pub zone_of : Geometry → ℕ → Option ℕ
zone_of g b = if nat_lt b g.meta then None else Some ((b - g.meta) / g.zone)

-- the blocks of namespace 1: the journal areas and the home blocks
abbrev pub blocks_of_drive : Geometry → ℕ
blocks_of_drive g = g.queues * g.area + homes_of g
