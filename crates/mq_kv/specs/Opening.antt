-- A store at its opening: over which ports it may be opened, why it is not, and what its desk and its sessions
-- are then.
use Rattle.std.specs.Prelude.{◌≡◌, ◌<◌, ℕ, List, length, Option, Some, None, nat_lt, if◌then◌else◌}
use Rattle.mq_blocks.specs.Blocks.{block_at}
use Rattle.mq_blocks.specs.Drive.{PortState}
use Rattle.mq_blocks.specs.Geometry.{homes_of, meta_of}
use Rattle.mq_blocks.specs.Machine.{Map}
use Rattle.mq_blocks.specs.declared.geometry.Geometry.{Geometry}
use Rattle.mq_drive.specs.Steps.{PortFault}
use Rattle.mq_drive.specs.declared.port.Port.{Ghosts}
use Rattle.mq_drive.specs.declared.port.Ports.{Ports}
use Rattle.mq_journal.specs.Numbers.{Start}
use Rattle.mq_kv_buckets.specs.Buckets.{IsFirstBad, IsFormed}
use Rattle.mq_kv.specs.declared.refusal.KvOpenRefusal.{KvOpenRefusal}
use Rattle.mq_kv.specs.declared.refusal.KvOpenRefusal.TheVariants.{Bucket, OutOfMemory}
use Rattle.mq_kv_entries.specs.Group.{store_group}
use Rattle.mq_kv_entries.specs.declared.entry.KvEntry.{KvEntry}
use Rattle.mq_ledger.specs.State.{IsStart}
use Rattle.mq_ledger.specs.Written.{journal_entries}
use Rattle.mq_sessions.specs.Opening as opening
use Rattle.mq_sessions.specs.Opening.{listed}
use Rattle.mq_pages.specs.declared.page.PageCell.{PageCell}
use Rattle.mq_recover.specs.Drives.{DriveState}
use Rattle.mq_recover.specs.Recovery.{started}
use Rattle.mq_recover.specs.declared.standing.Standing.{Standing}

-- ---- what stands on the drive

-- The map of stored home blocks: each block of the metadata region is a bucket, where an absent one is zeros,
-- and no other block is in the map.
abbrev pub bucket_in : ℕ → ℕ → List ℕ → Option (List ℕ)
bucket_in meta b bytes = if nat_lt b meta then Some bytes else None

abbrev pub store_map : Geometry → List (Option (List ℕ)) → Map
store_map g stored b = bucket_in (meta_of g) b (block_at stored b)

-- the same as a list
abbrev pub stored_map : Geometry → List (Option (List ℕ)) → List (Option (List ℕ))
stored_map g stored = listed g (store_map g stored)

-- The ports are a start of the machine over the map of these blocks; their base is the standing's. So each
-- bucket stands at home.
pub record MayOpen (g : Geometry) (d : DriveState) (s : Standing) : Type 0 where
  pub whole : length s.blocks.items ≡ homes_of g
  pub base : s.base ≡ d.root.base
  pub start : IsStart journal_entries (started g d (stored_map g s.blocks.items))

-- ---- whether it is a store

-- the first blocks are buckets in their form
abbrev pub AreFormed : ℕ → List (Option (List ℕ)) → Type 0
AreFormed count stored = (b : ℕ) → b < count → IsFormed (block_at stored b)

-- the least bucket that is not in its form, and the offset of its first bad record or byte
pub record IsLeastBad (g : Geometry) (stored : List (Option (List ℕ))) (b offset : ℕ) : Type 0 where
  pub meta : b < meta_of g
  pub bad : IsFirstBad (block_at stored b) offset
  pub least : AreFormed b stored

-- why no store is opened
pub data IsNotOpened (g : Geometry) (stored : List (Option (List ℕ))) : KvOpenRefusal → Type 0 where
  memory : AreFormed (meta_of g) stored → IsNotOpened g stored OutOfMemory
  bucket : {b offset : ℕ} → IsLeastBad g stored b offset → IsNotOpened g stored (Bucket b offset)

-- ---- what is made of it

-- the cells of all home blocks
abbrev pub first_cells : Geometry → List (Option (List ℕ)) → ℕ → List PageCell
first_cells g stored base = opening.first_cells g (store_map g stored) base

module _ {P : Type 0} {G : Ghosts P} (state : P → PortState) (faults : P → List PortFault) where
  -- What a desk was opened with over these ports: the map in its cells, and the ports, each where it was.
  abbrev pub IsOpenedOver : Geometry → Ports P → Standing → Start P KvEntry G → Type 0
  IsOpenedOver g ports s o = opening.IsOpenedOver state faults store_group g (store_map g s.blocks.items) ports s o
