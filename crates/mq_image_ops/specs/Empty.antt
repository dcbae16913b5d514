-- The image of a fresh drive: one of zeros, and one that holds the empty file system.
use Rattle.std.specs.Prelude.{◌≡◌, ◌<◌, ◌≤◌, ℕ, List, [], length, None, slice_index_or}
use Rattle.std.specs.List.{All}
use Rattle.mq_blocks.specs.Blocks.{zeros}
use Rattle.mq_blocks.specs.Drive.{PortImage}
use Rattle.mq_blocks.specs.Geometry.{area_of, homes_of, queues_of}
use Rattle.mq_blocks.specs.declared.geometry.Geometry.{Geometry}
use Rattle.mq_blocks.specs.Journal.{no_image}
use Rattle.mq_drive.specs.Start.{IsImageOf}
use Rattle.mq_drive.specs.declared.role.Role.TheVariants.{Queue, Root}
use Rattle.mq_image.specs.Drives.{HasWidths, IsDrive}
use Rattle.mq_image.specs.File.{DriveImage}
use Rattle.mq_image_ops.specs.Views.{view_of}
use Rattle.mq_layout.specs.Empty.{empty_block}
use Rattle.mq_nvme.specs.Entry.{blank}

-- all words are 0, and all slots hold zeros
pub record IsUnused (p : PortImage) : Type 0 where
  pub doorbell : p.doorbell ≡ 0
  pub head : p.head ≡ 0
  pub base : p.base ≡ 0
  pub slots : (k : ℕ) → k < length p.slots → slice_index_or p.slots k [] ≡ blank

-- No transaction was ever written, and each block is absent, which reads as zeros.
pub record IsBlankDrive (g : Geometry) (x : DriveImage) : Type 0 where
  pub geometry_is : x.geometry ≡ g
  pub drive : IsDrive x
  pub unused : (k : ℕ) → k ≤ queues_of g → IsUnused (slice_index_or x.ports k no_image)
  pub absent : (k b : ℕ) → k ≤ queues_of g
      → slice_index_or (slice_index_or x.ports k no_image).blocks b None ≡ None

-- No transaction was ever written, and the home blocks are those of the empty file system.
pub record IsEmptyDrive (g : Geometry) (x : DriveImage) : Type 0 where
  pub geometry_is : x.geometry ≡ g
  pub drive : IsDrive x
  pub widths : All HasWidths x.ports
  pub unused : (k : ℕ) → k ≤ queues_of g → IsUnused (slice_index_or x.ports k no_image)
  pub areas : (q k : ℕ) → q < queues_of g → k < area_of g → (view_of x).area q k ≡ zeros
  pub homes : (b : ℕ) → b < homes_of g → (view_of x).home b ≡ empty_block g b

-- the root's port
pub record IsFreshRoot (g : Geometry) (p : PortImage) : Type 0 where
  pub image : IsImageOf g Root p
  pub unused : IsUnused p

-- a queue's port of which each block is absent
pub record IsBlankQueue (g : Geometry) (q : ℕ) (p : PortImage) : Type 0 where
  pub image : IsImageOf g (Queue q) p
  pub unused : IsUnused p
  pub absent : (k : ℕ) → slice_index_or p.blocks k None ≡ None

-- the ports of all queues, so
pub record AreBlankQueues (g : Geometry) (count : ℕ) (ports : List PortImage) : Type 0 where
  pub count_is : length ports ≡ count
  pub each : (q : ℕ) → q < count → IsBlankQueue g q (slice_index_or ports q no_image)
