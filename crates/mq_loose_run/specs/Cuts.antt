-- What a cut leaves of the drive on which a text was run, and what is read of it.
use Rattle.std.specs.Prelude.{◌≡◌, ◌<◌, ◌≤◌, ℕ, ◌+◌, Bool, List, All, Contains, Option, Some, None, length, reverse}
use Rattle.mq_blocks.specs.Blocks.{block_at}
use Rattle.mq_blocks.specs.Descriptor.{Descriptor}
use Rattle.mq_blocks.specs.Drive.{FuseName, PortImage}
use Rattle.mq_blocks.specs.Geometry.{homes_of, queues_of}
use Rattle.mq_blocks.specs.Journal.{stands}
use Rattle.mq_blocks.specs.declared.geometry.Geometry.{Geometry}
use Rattle.mq_drive.specs.Fuse.{above}
use Rattle.mq_drive.specs.Seats.{fuse_of, tickets_of}
use Rattle.mq_drive.specs.declared.emu.EmuPort.{EmuPort}
use Rattle.mq_drive.specs.declared.fuse.FuseSeat.{FuseSeat}
use Rattle.mq_drive.specs.declared.port.Ports.{Ports}
use Rattle.mq_image.specs.Drives.{IsDrive}
use Rattle.mq_image.specs.File.{DriveImage, root_port}
use Rattle.mq_image_ops.specs.Cuts.{happened_at}
use Rattle.mq_image_ops.specs.Empty.{IsBlankDrive}
use Rattle.mq_image_ops.specs.Starts.{AreStarted}
use Rattle.mq_ledger.specs.State.{State}
use Rattle.mq_loose_order.specs.Standing.{AreStanding, numbers_of}
use Rattle.mq_loose_recover.specs.Images.{AreLooselyWhole, IsLooselyRead}
use Rattle.mq_loose_text.specs.Meaning.{IsSetIn, map_in, numbers_in, rung_on, settled_in}
use Rattle.mq_loose_text.specs.Text.{queue_count}
use Rattle.mq_loose_text.specs.declared.line.LooseLine.{LooseLine}
use Rattle.mq_loose_run.specs.Lines.{IsRunning}
use Rattle.mq_loose_run.specs.Runs.{view_in}
use Rattle.mq_loose_run.specs.declared.running.Running.{Running}

-- these are the ports of a drive of zeros
abbrev pub AreBlank : FuseName → Geometry → Ports EmuPort → Type 0
AreBlank fuse g ports = (x : DriveImage) × IsBlankDrive g x × AreStarted fuse None x ports

-- the queues over such ports, on which no line was run
abbrev pub IsOpenedBlank : FuseName → Running → Type 0
IsOpenedBlank fuse r = (start : State) × ((lines : List LooseLine) → IsRunning fuse start lines 0 r)

-- What is known once the fuse is closed: at most as many events happened as the limit says, and just so many where an
-- event was refused.
pub record IsClosed (fuse : FuseName) (seats : List FuseSeat) : Type 0 where
  pub few : (l : ℕ) → fuse.limit ≡ Some l → happened_at l seats ≤ l
  pub off : (l : ℕ) (s : FuseSeat) → fuse.limit ≡ Some l → Contains seats s → 0 < above l (tickets_of s)
      → happened_at l seats ≡ l

-- The image of the drive is readable, and its set is one in which the settled numbers are.
pub record ShowsRun (cut : Option ℕ) (lines : List LooseLine) (acknowledged : List ℕ) (x : DriveImage) : Type 0 where
  pub drive : IsDrive x
  pub base : (root_port x).base ≡ 0
  pub acknowledged_are : acknowledged ≡ numbers_in (settled_in cut lines) lines
  pub set : ℕ → Bool
  pub set_in : IsSetIn cut lines set
  pub deps : ℕ → List ℕ
  pub chains : ℕ → List Descriptor
  pub whole : AreLooselyWhole deps x.geometry (view_in deps x) chains
  pub ds : List Descriptor
  pub standing : AreStanding deps x.geometry (view_in deps x) chains ds
  pub set_is : reverse (numbers_of ds) ≡ numbers_in set lines
  pub stand : (b : ℕ) (content : List ℕ) → map_in set lines b ≡ Some content
      → stands x.geometry (view_in deps x) ds b ≡ content
  pub rung : (q : ℕ) → q < queue_count → (view_in deps x).doorbell q ≡ rung_on cut q lines

-- the images and the seats that a cut leaves of the drive, once the fuse of its power is closed
pub record IsCutRun (g : Geometry) (lines : List LooseLine) (fuse : FuseName) (acknowledged : List ℕ)
    (images : List PortImage) (seats : List FuseSeat) : Type 0 where
  pub own : All (λ s. fuse_of s ≡ fuse) seats
  pub count : length seats ≡ queues_of g + 1
  pub shows : IsClosed fuse seats
      → ShowsRun fuse.limit lines acknowledged (record { geometry = g; ports = images })

-- ---- reading the image

-- an image is readable in the loose form
abbrev pub IsReadableLoose : DriveImage → Type 0
IsReadableLoose x =
    (deps : ℕ → List ℕ) × (chains : ℕ → List Descriptor) × AreLooselyWhole deps x.geometry (view_in deps x) chains

-- what was read of it: the numbers of its set, and what stands on its home blocks
pub record IsReadOf (x : DriveImage) (set : List ℕ) (blocks : List (Option (List ℕ))) : Type 0 where
  pub deps : ℕ → List ℕ
  pub ds : List Descriptor
  pub top : ℕ
  pub read : IsLooselyRead deps x.geometry (view_in deps x) ds top
  pub set_is : set ≡ reverse (numbers_of ds)
  pub whole : length blocks ≡ homes_of x.geometry
  pub each : (b : ℕ) → b < homes_of x.geometry
      → block_at blocks b ≡ stands x.geometry (view_in deps x) ds b
