-- What there is to say of an image to each command, and with which status.
use Rattle.std.specs.Prelude.{◌≡◌, ◌≢◌, ℕ, List, Some, Ok, Err, codes}
use Rattle.mq_blocks.specs.Geometry.{IsArea, IsQueues, AreHomes, area_of, meta_of, queues_of, zone_size}
use Rattle.mq_blocks.specs.declared.geometry.Geometry.{Geometry}
use Rattle.mq_blocks.specs.declared.geometry.GeometryRefusal.{GeometryRefusal}
use Rattle.mq_blocks.specs.declared.geometry.GeometryRefusal.TheVariants.{Queues, Area, Homes}
use Rattle.mq_command_images.specs.declared.formatting.Numbers.{Numbers}
use Rattle.mq_command_images.specs.Lines.{drive_line, file_line, geometry_line, path_line, volume_line}
use Rattle.mq_command_io.specs.Ending.{IsNotSaved, IsSaved, SaysOf, memory_line}
use Rattle.mq_image.specs.Drives.{IsRead}
use Rattle.mq_image.specs.Faults.{HasFault}
use Rattle.mq_image.specs.File.{DriveImage, image_bytes}
use Rattle.mq_image.specs.declared.fault.FileFault.{FileFault}
use Rattle.mq_image_ops.specs.Dump.{IsDump}
use Rattle.mq_image_ops.specs.Empty.{IsEmptyDrive}
use Rattle.mq_image_ops.specs.Standing.{RefusesDrive, RefusesVolume, StandsFor}
use Rattle.mq_image_ops.specs.declared.refusal.StandingRefusal.{StandingRefusal}
use Rattle.mq_image_ops.specs.declared.refusal.StandingRefusal.TheVariants as standing
use Rattle.mq_outside.specs.Outside.{FilesState}
use Rattle.mq_recover.specs.declared.refusal.ImageFault.{ImageFault}
use Rattle.mq_tree.specs.ListText.{list_text}
use Rattle.mq_tree.specs.Trees.{ReadsAs}
use Rattle.mq_tree.specs.Volume.{Path, Volume}
use Rattle.mq_tree.specs.declared.request.Fault.{Fault}

-- The bytes are those of an image, of which this is to be said; or they are none, and the line names the
-- first fault.
pub data SaysOfImage (Of : DriveImage → (status : ℕ) → (text : List ℕ) → Type 0)
    (bytes : List ℕ) : (status : ℕ)
    → (text : List ℕ) → Type 0 where
  is_image : (x : DriveImage) {status : ℕ} {text : List ℕ} → IsRead x bytes → Of x status text
      → SaysOfImage Of bytes status text
  no_image : (e : FileFault) → HasFault bytes (Some e) → SaysOfImage Of bytes 3 (file_line e)

-- `ls`: the tree that stands, or why there is none
pub data Lists (x : DriveImage) : (status : ℕ) → (text : List ℕ) → Type 0 where
  listed : (v : Volume) → StandsFor x v → Lists x 0 (list_text v)
  not_listed : (e : StandingRefusal) → RefusesVolume x e → e ≢ standing.OutOfMemory
      → Lists x 3 (volume_line e)

-- `cat`: the bytes of the file at a path of the tree that stands, or why there are none
pub data ShowsFile (path : Path) (x : DriveImage) : (status : ℕ) → (text : List ℕ) → Type 0 where
  shown : (v : Volume) (bytes : List ℕ) → StandsFor x v → ReadsAs v path (Ok bytes)
      → ShowsFile path x 0 bytes
  no_file : (v : Volume) (fault : Fault) → StandsFor x v → ReadsAs v path (Err fault)
      → ShowsFile path x 3 (path_line fault)
  not_shown : (e : StandingRefusal) → RefusesVolume x e → e ≢ standing.OutOfMemory
      → ShowsFile path x 3 (volume_line e)

-- `dump`: the words and the chains, or why they are not readable
pub data Dumps (x : DriveImage) : (status : ℕ) → (text : List ℕ) → Type 0 where
  dumped : (text : List ℕ) → IsDump x text → Dumps x 0 text
  not_dumped : (e : ImageFault) → RefusesDrive x e → Dumps x 3 (drive_line e)

-- nothing is to be said of an image
abbrev pub SaysNothing : DriveImage → (status : ℕ) → (text : List ℕ) → Type 0
SaysNothing x status text = ⊥

-- the name is not loaded, or its bytes are those of no image
abbrev pub RefusesName : (name : List ℕ) → (old new : FilesState) → (status : ℕ) → (text : List ℕ) → Type 0
RefusesName name old new status text = SaysOf (SaysOfImage SaysNothing) name old new status text

-- ---- saves

-- bytes are saved, and then a text is said; or they are not saved
pub data SavesAs (name bytes said : List ℕ) (old new : FilesState) : (status : ℕ) → (text : List ℕ)
    → Type 0 where
  saved : IsSaved name bytes old new → SavesAs name bytes said old new 0 said
  unsaved : {status : ℕ} {text : List ℕ} → IsNotSaved name old new status text
      → SavesAs name bytes said old new status text

-- ---- `format`

-- the numbers of a geometry
abbrev pub numbers_of : Geometry → Numbers
numbers_of g = record { queues = queues_of g; area = area_of g; meta = meta_of g; zone = zone_size g }

-- the first of these numbers that is out of its range
abbrev pub RefusesNumbers : Numbers → GeometryRefusal → Type 0
RefusesNumbers n (Queues found) = (found ≡ n.queues) × (IsQueues n.queues → ⊥)
RefusesNumbers n (Area found) = (found ≡ n.area) × IsQueues n.queues × (IsArea n.area → ⊥)
RefusesNumbers n (Homes meta zone) =
    (meta ≡ n.meta) × (zone ≡ n.zone) × IsQueues n.queues × IsArea n.area
    × (AreHomes n.queues n.meta n.zone → ⊥)

-- what `format` makes of a name and numbers, and what it says of them, by what the files show before and
-- after
pub data Formats (n : Numbers) (name : List ℕ) (old new : FilesState) : (status : ℕ) → (text : List ℕ)
    → Type 0 where
  formatted : (g : Geometry) (x : DriveImage) → numbers_of g ≡ n → IsEmptyDrive g x
      → IsSaved name (image_bytes x) old new → Formats n name old new 0 (codes "formatted\n")
  no_geometry : (e : GeometryRefusal) → RefusesNumbers n e → new ≡ old
      → Formats n name old new 3 (geometry_line e)
  not_saved : {status : ℕ} {text : List ℕ} → IsNotSaved name old new status text
      → Formats n name old new status text
  wants_memory : new ≡ old → Formats n name old new 6 memory_line
