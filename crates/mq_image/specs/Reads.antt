-- What the parts of a file are read as.
use Rattle.std.specs.Prelude.{◌≡◌, ◌<◌, ◌≤◌, ℕ, ◌+◌, ◌*◌, List, ◌++◌, Option, None, Ok, length, map, take, slice_index_or}
use Rattle.std.specs.List.{All, flat_map}
use Rattle.mq_blocks.specs.Drive.{PortImage}
use Rattle.mq_blocks.specs.Geometry.{queues_of, area_of, meta_of, zone_size}
use Rattle.mq_blocks.specs.Windows.{number_at, window}
use Rattle.mq_blocks.specs.declared.geometry.Geometry.{Geometry}
use Rattle.mq_blocks.specs.Journal.{no_image}
use Rattle.mq_image.specs.Drives.{HasWidths}
use Rattle.mq_image.specs.Faults.{IsGeometryIn, header_fault, version_in}
use Rattle.mq_image.specs.File.{all_blocks, areas, file_bytes, kept, namespace, ring_bytes, ring_depth, ring_size, rings_end, zones}
use Rattle.mq_image.specs.Places.{IsInside, IsSpan, fault_left}
use Rattle.mq_image.specs.declared.header.Header.{Header}
use Rattle.mq_image.specs.declared.place.Place.{Place}

-- this header was read, and has no fault
pub record IsHeaderIn (file : List ℕ) (h : Header) : Type 0 where
  pub none : header_fault (Ok h.geometry) file ≡ None
  pub version_is : h.version ≡ version_in file
  pub geometry_is : IsGeometryIn file h.geometry
  pub base_is : h.base ≡ number_at 8 32 file
  pub room : 40 ≤ length file

-- `count` blocks of the namespace were read
pub record IsPast (file : List ℕ) (old new : Place) (count : ℕ) : Type 0 where
  pub size : new.size ≡ old.size
  pub lba : new.lba ≡ old.lba + count
  pub inside : IsInside new file
  pub fault : fault_left new file ≡ fault_left old file
  pub end : new.at + 4100 * new.left ≡ old.at + 4100 * old.left

-- a queue's port with a journal area and no zone
pub record IsAreaPort (version : ℕ) (g : Geometry) (p : PortImage) : Type 0 where
  pub area : length p.blocks ≡ area_of g
  pub slots : length p.slots ≡ ring_depth version
  pub base : p.base ≡ 0
  pub widths : HasWidths p

-- it was read as the port of this queue
pub record IsAreaRead (version : ℕ) (g : Geometry) (file : List ℕ) (queue : ℕ) (old new : Place)
    (p : PortImage) : Type 0 where
  pub port : IsAreaPort version g p
  pub span : IsSpan file old new p.blocks
  pub ring : ring_bytes p ≡ window file (rings_end version queue) (ring_size version)

-- the ports of the first `count` queues were read
pub record AreAreasRead (version : ℕ) (g : Geometry) (file : List ℕ) (count : ℕ) (old new : Place)
    (ports : List PortImage) : Type 0 where
  pub count_is : length ports ≡ count
  pub each : All (λ p. IsAreaPort version g p) ports
  pub blocks : length (all_blocks ports) ≡ count * area_of g
  pub span : IsSpan file old new (all_blocks ports)
  pub rings : flat_map ring_bytes ports ≡ window file 40 (ring_size version * count)

-- a queue's port
pub record IsQueuePort (version : ℕ) (g : Geometry) (p : PortImage) : Type 0 where
  pub blocks : length p.blocks ≡ area_of g + zone_size g
  pub slots : length p.slots ≡ ring_depth version
  pub base : p.base ≡ 0
  pub widths : HasWidths p

-- the port with the blocks of a zone behind its own
abbrev pub with_zone : PortImage → List (Option (List ℕ)) → PortImage
with_zone p zone = record p { blocks = p.blocks ++ zone }

-- the zones of the first `count` ports were read, and the others have none yet
pub record AreZonesRead (version : ℕ) (g : Geometry) (file : List ℕ) (count : ℕ) (old new : Place)
    (before ports : List PortImage) : Type 0 where
  pub count_is : length ports ≡ length before
  pub done : (k : ℕ) → k < count → IsQueuePort version g (slice_index_or ports k no_image)
  pub rest : (k : ℕ) → count ≤ k → k < length ports
      → IsAreaPort version g (slice_index_or ports k no_image)
  pub size : length (zones g ports) ≡ count * zone_size g
  pub span : IsSpan file old new (zones g ports)
  pub areas_are : areas g ports ≡ all_blocks before
  pub rings : flat_map ring_bytes ports ≡ flat_map ring_bytes before

-- the root's port
pub record IsRootPort (g : Geometry) (base : ℕ) (p : PortImage) : Type 0 where
  pub blocks : length p.blocks ≡ meta_of g
  pub slots : length p.slots ≡ 0
  pub doorbell : p.doorbell ≡ 0
  pub head : p.head ≡ 0
  pub base_is : p.base ≡ base
  pub widths : HasWidths p

-- all ports were read
pub record ArePortsRead (version : ℕ) (g : Geometry) (base : ℕ) (file : List ℕ) (old new : Place)
    (ports : List PortImage) : Type 0 where
  pub count_is : length ports ≡ queues_of g + 1
  pub queues : (q : ℕ) → q < queues_of g → IsQueuePort version g (slice_index_or ports q no_image)
  pub root : IsRootPort g base (slice_index_or ports (queues_of g) no_image)
  pub past : IsPast file old new old.size
  pub span : IsSpan file old new
      (namespace g (take (queues_of g) ports) (slice_index_or ports (queues_of g) no_image))
  pub rings : flat_map ring_bytes (take (queues_of g) ports)
      ≡ window file 40 (ring_size version * queues_of g)

-- the file has these ports, as they stand in it
pub record AreStored (version : ℕ) (g : Geometry) (file : List ℕ) (ports : List PortImage) : Type 0 where
  pub count_is : length ports ≡ queues_of g + 1
  pub queues : (q : ℕ) → q < queues_of g → IsQueuePort version g (slice_index_or ports q no_image)
  pub base : ℕ
  pub root : IsRootPort g base (slice_index_or ports (queues_of g) no_image)
  pub bytes : file
      ≡ file_bytes version g (take (queues_of g) ports) (slice_index_or ports (queues_of g) no_image)
  pub kept_is : map kept
      (namespace g (take (queues_of g) ports) (slice_index_or ports (queues_of g) no_image))
      ≡ namespace g (take (queues_of g) ports) (slice_index_or ports (queues_of g) no_image)
