-- What reading a queue's chain finds.
use Rattle.std.specs.Prelude.{◌≡◌, ◌<◌, ℕ, ◌+◌, List, [], ◌∷◌, Option, slice_index_or}
use Rattle.std.specs.Option.{unwrap_or}
use Rattle.mq_blocks.specs.Blocks.{block_at}
use Rattle.mq_blocks.specs.Limits.{list_limit}
use Rattle.mq_blocks.specs.Descriptor.{Descriptor, IsGood, first_place, journal_form}
use Rattle.mq_blocks.specs.Drive.{PortState}
use Rattle.mq_blocks.specs.Geometry.{queues_of}
use Rattle.mq_blocks.specs.Journal.{Shown}
use Rattle.mq_blocks.specs.declared.geometry.Geometry.{Geometry}
use Rattle.mq_nvme.specs.Says.{says}
use Rattle.mq_drive.specs.Start.{IsPortOf}
use Rattle.mq_drive.specs.declared.role.Role.TheVariants.{Queue}
use Rattle.mq_area.specs.declared.descriptor.PlaceIs.{PlaceIs}
use Rattle.mq_area.specs.declared.descriptor.PlaceIs.TheVariants.{Index, Exact}

-- the image shows this port as queue q, over this base
pub record IsSeenAt (q base : ℕ) (s : PortState) (i : Shown) : Type 0 where
  pub form_is : i.form ≡ journal_form
  pub base_is : i.base ≡ base
  pub head_is : i.head q ≡ s.head
  pub doorbell_is : i.doorbell q ≡ s.doorbell
  pub entry_is : (k : ℕ) → i.entry q k ≡ says (slice_index_or s.flushed k [])
  pub area_is : (k : ℕ) → i.area q k ≡ block_at s.blocks k

-- the port is that of a queue of the drive
abbrev pub IsQueuePort : Geometry → PortState → Type 0
IsQueuePort g s = (q : ℕ) × (q < queues_of g) × IsPortOf g (Queue q) s

-- where a descriptor is expected
abbrev pub where_of : PlaceIs → ℕ
where_of (Index index) = index
where_of (Exact place) = place

-- the copies of a descriptor are in reach of the newest place, which is its own if there is none
abbrev pub IsWithinReach : Geometry → Option ℕ → Descriptor → Type 0
IsWithinReach g newest d = unwrap_or newest d.place < first_place d + g.area

-- ---- the transactions of a chain

-- the chain of a queue among those of all
abbrev pub chain_at : List (List Descriptor) → ℕ → List Descriptor
chain_at chains q = slice_index_or chains q []

abbrev pub AreGood : ℕ → List Descriptor → Type 0
AreGood homes [] = Unit {0}
AreGood homes (d ∷ ds) = IsGood list_limit homes d × AreGood homes ds

-- they are transactions of this queue
abbrev pub AreOf : ℕ → List Descriptor → Type 0
AreOf q [] = Unit {0}
AreOf q (d ∷ ds) = (d.queue ≡ q) × AreOf q ds

-- the numbers fall, below one and above another
abbrev pub AreFalling : (low high : ℕ) → List Descriptor → Type 0
AreFalling low high [] = Unit {0}
AreFalling low high (d ∷ ds) = (low < d.number) × (d.number < high) × AreFalling low d.number ds
