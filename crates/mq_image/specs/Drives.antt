-- Which images are those of a drive, and their files.
use Rattle.std.specs.Prelude.{◌≡◌, ◌⊎◌, ◌<◌, ℕ, ◌+◌, ◌^◌, List, [], ◌∷◌, ◌++◌, length, map, slice_index_or}
use Rattle.std.specs.List.{All}
use Rattle.mq_blocks.specs.Drive.{PortImage}
use Rattle.mq_blocks.specs.Geometry.{area_of, queues_of, zone_size}
use Rattle.mq_blocks.specs.declared.geometry.Geometry.{Geometry}
use Rattle.mq_blocks.specs.Journal.{no_image}
use Rattle.mq_drive.specs.Start.{IsImageOf}
use Rattle.mq_drive.specs.declared.role.Role.TheVariants.{Queue, Root}
use Rattle.mq_nvme.specs.Dwords.{AreDwords}
use Rattle.mq_image.specs.File.{DriveImage, IsBlockSized, file_bytes, image_bytes, kept, namespace, queue_ports, root_port}
use Rattle.mq_image.specs.Old.{IsOldPort, moved}

-- one port for each role of the geometry, each with the slots, blocks and zeros of its role
pub record IsDrive (x : DriveImage) : Type 0 where
  pub ports : length x.ports ≡ queues_of x.geometry + 1
  pub queues : (q : ℕ) → q < queues_of x.geometry
      → IsImageOf x.geometry (Queue q) (slice_index_or x.ports q no_image)
  pub root : IsImageOf x.geometry Root (root_port x)

-- the words, the slots and the blocks of a port fit their places in the file
pub record HasWidths (p : PortImage) : Type 0 where
  pub doorbell : p.doorbell < 2 ^ 64
  pub head : p.head < 2 ^ 64
  pub base : p.base < 2 ^ 64
  pub slots : All (λ e. AreDwords 16 e) p.slots
  pub blocks : All IsBlockSized p.blocks

-- a port with each block of zeros absent
abbrev pub without_blanks : PortImage → PortImage
without_blanks p = record p { blocks = map kept p.blocks }

abbrev pub emptied : DriveImage → DriveImage
emptied x = record { geometry = x.geometry; ports = map without_blanks x.ports }

-- the ports of the queues and of the root in a file of version 1
pub record AreOldPorts (g : Geometry) (old : List PortImage) (root : PortImage) : Type 0 where
  pub count : length old ≡ queues_of g
  pub each : All IsOldPort old
  pub blocks : All (λ p. length p.blocks ≡ area_of g + zone_size g) old
  pub base : All (λ p. p.base ≡ 0) old
  pub bytes : All (λ p. All IsBlockSized p.blocks) old
  pub root_is : IsImageOf g Root root
  pub root_widths : HasWidths root

-- the image as which they are read, but for blocks of zeros
abbrev pub old_image : Geometry → List PortImage → PortImage → DriveImage
old_image g old root = record { geometry = g; ports = map moved old ++ root ∷ [] }

-- the file is one of version 1, and the queues' ports are its own with their rings moved
pub record IsOldFile (x : DriveImage) (file : List ℕ) : Type 0 where
  pub old : List PortImage
  pub each : All IsOldPort old
  pub moved_is : queue_ports x ≡ map moved old
  pub is : file ≡ file_bytes 1 x.geometry old (root_port x)

-- The file is that of this image, of which no block that is there is all zeros, or is of version 1 and has
-- what this image has.
pub record IsRead (x : DriveImage) (file : List ℕ) : Type 0 where
  pub drive : IsDrive x
  pub widths : All HasWidths x.ports
  pub file_is : (file ≡ image_bytes x) ⊎ IsOldFile x file
  pub kept_is : map kept (namespace x.geometry (queue_ports x) (root_port x))
      ≡ namespace x.geometry (queue_ports x) (root_port x)
