-- Files of version 1: rings of 1,024 slots, and what becomes of them in a ring of 4,096.
use Rattle.std.specs.Prelude.{◌≡◌, ◌<◌, ◌≤◌, ℕ, ◌+◌, ◌-◌, ◌%◌, List, [], length, map, slice_index_or, nat_lt, if◌then◌else◌}
use Rattle.std.specs.List.{All, range_with_len}
use Rattle.mq_blocks.specs.Drive.{PortImage}
use Rattle.mq_blocks.specs.Journal.{no_image, number_limit}
use Rattle.mq_blocks.specs.Limits.{depth}
use Rattle.mq_nvme.specs.Dwords.{AreDwords}
use Rattle.mq_nvme.specs.Entry.{blank}

-- the words of a queue of version 1
pub record AreOldWords (p : PortImage) : Type 0 where
  pub order : p.head ≤ p.doorbell
  pub few : p.doorbell - p.head ≤ 1023
  pub low : p.doorbell ≤ number_limit

-- a queue's port as version 1 has it
pub record IsOldPort (p : PortImage) : Type 0 where
  pub slots : length p.slots ≡ 1024
  pub dwords : All (λ e. AreDwords 16 e) p.slots
  pub words : AreOldWords p

-- the count from the first one on that has this slot in a ring of today's depth
abbrev pub count_of : (first slot : ℕ) → ℕ
count_of first slot = first + (slot + 4096 - first % 4096) % 4096

-- What a slot of today's ring holds: the entry of its count, from the one before the head on, if it is
-- below the doorbell.
abbrev pub moved_entry : (head doorbell : ℕ) → List (List ℕ) → (slot : ℕ) → List ℕ
moved_entry head doorbell slots slot =
    if nat_lt (count_of (head - 1) slot) doorbell
    then slice_index_or slots (count_of (head - 1) slot % 1024) []
    else blank

-- the first slots of today's ring
unfoldable pub moved_slots : (head doorbell : ℕ) → List (List ℕ) → (count : ℕ) → List (List ℕ)
moved_slots head doorbell slots count = map (moved_entry head doorbell slots) (range_with_len 0 count)

-- the port with a ring of today's depth
abbrev pub moved : PortImage → PortImage
moved p = record p { slots = moved_slots p.head p.doorbell p.slots depth }

-- the rings of the first `count` ports were moved
pub record AreMoved (count : ℕ) (old new : List PortImage) : Type 0 where
  pub count_is : length new ≡ length old
  pub done : (k : ℕ) → k < count → slice_index_or new k no_image ≡ moved (slice_index_or old k no_image)
  pub rest : (k : ℕ) → count ≤ k → slice_index_or new k no_image ≡ slice_index_or old k no_image
