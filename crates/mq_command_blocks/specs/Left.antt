-- The image that the cut leaves of the drive of a block text, and the trace of the text.
use Rattle.std.specs.Prelude.{◌≡◌, ℕ, Bool, true, false, List, [], ◌∷◌, Option, Some, None}
use Rattle.std.specs.declared.vec.Vec.{Vec}
use Rattle.mq_blocks.specs.Drive.{FuseName, PortImage}
use Rattle.mq_blocks.specs.Journal.{shown}
use Rattle.mq_blocks.specs.declared.geometry.Geometry.{Geometry}
use Rattle.mq_drive.specs.Seats.{fuse_of, tickets_of}
use Rattle.mq_drive.specs.Start.{IsImageOf}
use Rattle.mq_drive.specs.declared.emu.EmuPort.{EmuPort}
use Rattle.mq_drive.specs.declared.fuse.FuseSeat.{FuseSeat}
use Rattle.mq_drive.specs.declared.port.Ports.{Ports}
use Rattle.mq_drive.specs.declared.role.Role.TheVariants.{Queue, Root}
use Rattle.mq_image.specs.Drives.{IsDrive}
use Rattle.mq_image.specs.File.{DriveImage, image_bytes}
use Rattle.mq_image_ops.specs.Cuts.{AreCutPorts, row_of}
use Rattle.mq_image_ops.specs.Empty.{IsBlankDrive}
use Rattle.mq_image_ops.specs.Starts.{AreSeeded, AreStarted}
use Rattle.mq_image_ops.specs.Views.{view_of}
use Rattle.mq_command_io.specs.Ending.{IsSaved}
use Rattle.mq_nvme.specs.Says.{journal_reading}
use Rattle.mq_outside.specs.Outside.{FilesState}
use Rattle.mq_block_text.specs.declared.item.BlockItem.{BlockItem}
use Rattle.mq_command_blocks.specs.Commits.{ShowsMap}
use Rattle.mq_block_trace.specs.Prefixes.{events_under}
use Rattle.mq_command_blocks.specs.Cuts.{StandsUnder, rung_after}
use Rattle.mq_block_trace.specs.Fresh.{IsTextGeometry}
use Rattle.mq_block_trace.specs.Lines.{map_after}
use Rattle.mq_block_trace.specs.Written.{IsTraced}

-- a drive of one queue
abbrev pub drive_image : Geometry → (queue root : PortImage) → DriveImage
drive_image g queue root = record { geometry = g; ports = queue ∷ root ∷ [] }

-- On the image stand the first p lines: its base is 0, it reaches so many transactions, and the blocks of
-- the map after them have their content. Its doorbell is past the lines that were rung before the cut, and
-- past no other.
pub record IsLeft (lines : List (List BlockItem)) (cut : Option ℕ) (p : ℕ) (x : DriveImage) : Type 0 where
  pub geometry_is : IsTextGeometry x.geometry
  pub drive : IsDrive x
  pub shows : ShowsMap x.geometry (view_of x) p (map_after lines p)
  pub rung : (view_of x).doorbell 0 ≡ rung_after lines (events_under lines cut)

-- These images of the two ports, and these seats of the fuse of their power, are what a cut leaves of a
-- drive on which a text was committed until its power went off, or to the end. The first p lines stand on
-- it, by the tickets of the queue's port; the root's port drew none.
pub record IsCutText (g : Geometry) (lines : List (List BlockItem)) (fuse : FuseName)
    (images : List PortImage) (seats : List FuseSeat) : Type 0 where
  pub queue : PortImage
  pub root : PortImage
  pub images_are : images ≡ queue ∷ root ∷ []
  pub queue_image : IsImageOf g (Queue 0) queue
  pub root_image : IsImageOf g Root root
  pub queue_seat : FuseSeat
  pub root_seat : FuseSeat
  pub seats_are : seats ≡ queue_seat ∷ root_seat ∷ []
  pub queue_own : fuse_of queue_seat ≡ fuse
  pub root_own : fuse_of root_seat ≡ fuse
  pub idle : tickets_of root_seat ≡ []
  pub p : ℕ
  pub stands : StandsUnder lines fuse.limit (tickets_of queue_seat) queue.doorbell p
  pub shows : ShowsMap g (shown journal_reading g (queue ∷ []) root) p (map_after lines p)

-- Whence these images and seats came: the drive of zeros started with this pick as the seed of what its
-- ports left to chance, and cuts with the same pick left these images of its ports.
pub record IsPickedText (g : Geometry) (pick : ℕ) (fuse : FuseName) (images : List PortImage)
    (seats : List FuseSeat) : Type 0 where
  pub blank : DriveImage
  pub is_blank : IsBlankDrive g blank
  pub old : Ports EmuPort
  pub started : AreStarted fuse None blank old
  pub seeded : AreSeeded g pick old
  pub new : Ports EmuPort
  pub cut : AreCutPorts pick (row_of new) images seats

module _ {Z : Type 0} where
  -- these are the bytes of the file
  abbrev pub IsFile : List ℕ → Option (Vec ℕ Z) → Type 0
  IsFile bytes None = ⊥
  IsFile bytes (Some file) = file.items ≡ bytes

  -- the file of the image is kept where it is wanted
  abbrev pub KeepsLeft : Bool → DriveImage → Option (Vec ℕ Z) → Type 0
  KeepsLeft false x file = file ≡ None
  KeepsLeft true x file = IsFile (image_bytes x) file

  -- these are the bytes of the trace of the lines
  abbrev pub IsTraceFile : List (List BlockItem) → Option ℕ → Option (Vec ℕ Z) → Type 0
  IsTraceFile lines cut None = ⊥
  IsTraceFile lines cut (Some file) = IsTraced lines cut file.items

  -- the trace is kept where it is wanted
  abbrev pub KeepsTrace : Bool → List (List BlockItem) → Option ℕ → Option (Vec ℕ Z) → Type 0
  KeepsTrace false lines cut file = file ≡ None
  KeepsTrace true lines cut file = IsTraceFile lines cut file

-- the image is saved under the name, where one is given; else nothing changes
abbrev pub SavesLeft : Option (List ℕ) → DriveImage → (old new : FilesState) → Type 0
SavesLeft None x old new = new ≡ old
SavesLeft (Some name) x old new = IsSaved name (image_bytes x) old new

-- the trace of the lines up to the cut is saved under the name, where one is given; else nothing changes
abbrev pub SavesTrace : Option (List ℕ) → List (List BlockItem) → Option ℕ → (old new : FilesState) → Type 0
SavesTrace None lines cut old new = new ≡ old
SavesTrace (Some name) lines cut old new =
    (bytes : List ℕ) × IsTraced lines cut bytes × IsSaved name bytes old new
