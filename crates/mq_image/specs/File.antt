-- The image of a drive as a file. All numbers stand with the least byte first.
use Rattle.std.specs.Prelude.{◌≡◌, ◌≤◌, ℕ, ◌+◌, ◌*◌, ◌||◌, List, [], ◌∷◌, ◌++◌, length, take, drop, Bool, if◌then◌else◌, nat_eq, Option, Some, None, slice_index_or}
use Rattle.std.specs.Int.{to_le_bytes, w32, w64}
use Rattle.std.specs.List.{flat_map, list_all}
use Rattle.mq_blocks.specs.Descriptor.{list_bytes}
use Rattle.mq_blocks.specs.Drive.{PortImage}
use Rattle.mq_blocks.specs.Geometry.{queues_of, area_of, meta_of, zone_size}
use Rattle.mq_blocks.specs.declared.geometry.Geometry.{Geometry}
use Rattle.mq_blocks.specs.Journal.{no_image}
use Rattle.mq_blocks.specs.Limits.{depth}
use Rattle.mq_nvme.specs.Dwords.{dword_bytes}

-- a drive after its power was cut: the images of the queues' ports in order, and then of the root's
pub record DriveImage : Type 0 where
  pub geometry : Geometry
  pub ports : List PortImage

abbrev pub queue_ports : DriveImage → List PortImage
queue_ports x = take (queues_of x.geometry) x.ports

abbrev pub root_port : DriveImage → PortImage
root_port x = slice_index_or x.ports (queues_of x.geometry) no_image

-- ---- the versions

-- the version that is written; version 1 is read too
abbrev pub written_version : ℕ
written_version = 2

abbrev pub is_version : ℕ → Bool
is_version version = nat_eq version 1 || nat_eq version written_version

-- the slots of a queue's ring in a file of this version
unfoldable pub ring_depth : ℕ → ℕ
ring_depth version = if nat_eq version 1 then 1024 else depth

-- the bytes of a queue's words and ring
unfoldable pub ring_size : ℕ → ℕ
ring_size version = if nat_eq version 1 then 65552 else 262160

-- where those of so many queues end
unfoldable pub rings_end : (version queues : ℕ) → ℕ
rings_end version queues = if nat_eq version 1 then 40 + 65552 * queues else 40 + 262160 * queues

-- ---- the blocks of a port

-- a block that is there has 4,096 bytes
abbrev pub IsBlockSized : Option (List ℕ) → Type 0
IsBlockSized None = Unit {0}
IsBlockSized (Some block) = length block ≡ 4096

-- ---- blocks, by their Lba

-- all bytes of the block are 0
abbrev pub is_blank : List ℕ → Bool
is_blank block = list_all (λ byte. nat_eq byte 0) block

-- what the file keeps of a block: one of zeros is left out
abbrev pub kept : Option (List ℕ) → Option (List ℕ)
kept None = None
kept (Some block) = if is_blank block then None else Some block

-- a block behind its Lba
abbrev pub record_bytes : ℕ → Option (List ℕ) → List ℕ
record_bytes lba None = []
record_bytes lba (Some block) = to_le_bytes w32 lba ++ block

-- the blocks from an Lba on
unfoldable pub records : ℕ → List (Option (List ℕ)) → List ℕ
records lba [] = []
records lba (block ∷ blocks) = record_bytes lba (kept block) ++ records (lba + 1) blocks

abbrev pub one_of : Option (List ℕ) → ℕ
one_of None = 0
one_of (Some block) = 1

-- how many of them the file keeps
unfoldable pub record_count : List (Option (List ℕ)) → ℕ
record_count [] = 0
record_count (block ∷ blocks) = one_of (kept block) + record_count blocks

-- the blocks of the journal areas, and of the zones
abbrev pub areas : Geometry → List PortImage → List (Option (List ℕ))
areas g queues = flat_map (λ (p : PortImage). take (area_of g) p.blocks) queues

abbrev pub zones : Geometry → List PortImage → List (Option (List ℕ))
zones g queues = flat_map (λ (p : PortImage). drop (area_of g) p.blocks) queues

-- all blocks of some ports
abbrev pub all_blocks : List PortImage → List (Option (List ℕ))
all_blocks ports = flat_map (λ (p : PortImage). p.blocks) ports

-- the port has the blocks of a journal area
abbrev pub HasArea : Geometry → PortImage → Type 0
HasArea g p = area_of g ≤ length p.blocks

-- all blocks of the namespace in order: the areas, the metadata region and the zones
abbrev pub namespace : Geometry → List PortImage → PortImage → List (Option (List ℕ))
namespace g queues root = areas g queues ++ root.blocks ++ zones g queues

-- ---- the file

-- "MQFSIMG1"
abbrev pub magic : List ℕ
magic = 77 ∷ 81 ∷ 70 ∷ 83 ∷ 73 ∷ 77 ∷ 71 ∷ 49 ∷ []

-- the numbers behind it, four bytes each: the version, the geometry and a reserved 0
abbrev pub header_numbers : ℕ → Geometry → List ℕ
header_numbers version g = version ∷ queues_of g ∷ area_of g ∷ meta_of g ∷ zone_size g ∷ 0 ∷ []

-- the first 40 bytes
unfoldable pub header_bytes : ℕ → Geometry → ℕ → List ℕ
header_bytes version g base = magic ++ list_bytes (header_numbers version g) ++ to_le_bytes w64 base

-- a queue's doorbell, head and ring
unfoldable pub ring_bytes : PortImage → List ℕ
ring_bytes p = to_le_bytes w64 p.doorbell ++ to_le_bytes w64 p.head ++ flat_map dword_bytes p.slots

-- the file of this version, where each queue has as many slots as it says
unfoldable pub file_bytes : ℕ → Geometry → List PortImage → PortImage → List ℕ
file_bytes version g queues root =
    header_bytes version g root.base ++ flat_map ring_bytes queues
    ++ to_le_bytes w32 (record_count (namespace g queues root)) ++ records 0 (namespace g queues root)

-- the file that is written
abbrev pub image_bytes : DriveImage → List ℕ
image_bytes x = file_bytes written_version x.geometry (queue_ports x) (root_port x)
