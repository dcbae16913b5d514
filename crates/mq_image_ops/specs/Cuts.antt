-- What a power cut leaves of the ports of a drive, and how a recovery through them ended.
use Rattle.std.specs.Prelude.{◌≡◌, ◌<◌, ℕ, ◌+◌, Bool, true, false, List, [], ◌∷◌, ◌++◌, All, Contains, length, map, Option, Some, None, is_none}
use Rattle.mq_blocks.specs.Descriptor.{Descriptor}
use Rattle.mq_blocks.specs.Drive.{FuseName, IsImage, IsQuiescent, PortImage, image_of}
use Rattle.mq_blocks.specs.Geometry.{queues_of}
use Rattle.mq_blocks.specs.Machine.{Writes}
use Rattle.mq_blocks.specs.Totals.{total}
use Rattle.mq_blocks.specs.declared.geometry.Geometry.{Geometry}
use Rattle.mq_drive.specs.Choices.{cut_of}
use Rattle.mq_drive.specs.Emu.{chance_of, drawn_by, emu_faults, emu_state}
use Rattle.mq_drive.specs.Fuse.{above, below}
use Rattle.mq_drive.specs.Happened.{happened_in}
use Rattle.mq_drive.specs.Seats.{fuse_of, tickets_of}
use Rattle.mq_drive.specs.Start.{IsImageOf, IsPortOf}
use Rattle.mq_drive.specs.Steps.{PowerOff}
use Rattle.mq_drive.specs.declared.emu.EmuPort.{EmuPort}
use Rattle.mq_drive.specs.declared.fuse.FuseSeat.{FuseSeat}
use Rattle.mq_drive.specs.declared.port.Ports.{Ports}
use Rattle.mq_drive.specs.declared.role.Role.{Role}
use Rattle.mq_image.specs.Drives.{IsDrive}
use Rattle.mq_image.specs.File.{DriveImage}
use Rattle.mq_image_ops.specs.Recovering.{IsAllHome, IsStillStanding, IsToRecover, events_of}
use Rattle.mq_image_ops.specs.Starts.{AreSeeded, AreStarted}
use Rattle.mq_image_ops.specs.Views.{view_of}
use Rattle.mq_image_ops.specs.declared.recovery.RecoveredImage.{RecoveredImage}
use Rattle.mq_ledger.specs.State.{port_at}
use Rattle.mq_recover.specs.Drives.{DriveFaults, DriveState, drive_of, faults_on}
use Rattle.mq_recover.specs.RecoverCauses.{OneGains}
use Rattle.mq_recover.specs.Steps.{IsCutShort, HasRecovered}
use Rattle.mq_recover.specs.declared.choice.Recovered.{Recovered}
use Rattle.mq_recover.specs.declared.refusal.RecoverRefusal.TheVariants.{Off}

-- A cut left this image of the port, and its seat came back. The pick, with what the port leaves to chance,
-- chooses the image among those that a cut may leave.
pub record IsCutPort (pick : ℕ) (p : EmuPort) (i : PortImage) (s : FuseSeat) : Type 0 where
  pub image : IsImage (emu_state p) i
  pub chosen : i ≡ cut_of (emu_state p) (chance_of p) pick
  pub quiet : IsQuiescent (emu_state p) → i ≡ image_of (emu_state p)
  pub role : (g : Geometry) (role : Role) → IsPortOf g role (emu_state p) → IsImageOf g role i
  pub fuse : fuse_of s ≡ (emu_state p).fuse
  pub tickets : tickets_of s ≡ drawn_by p
  pub events : (l : ℕ) → (emu_state p).fuse.limit ≡ Some l
      → below l (tickets_of s) ≡ happened_in (emu_state p) (emu_faults p)
  -- a port that refused an event for its power drew a ticket at or above the limit
  pub off : (l : ℕ) → (emu_state p).fuse.limit ≡ Some l → Contains (emu_faults p) PowerOff
      → 0 < above l (tickets_of s)

-- a port with its image and its seat
pub record CutPort : Type 0 where
  pub port : EmuPort
  pub image : PortImage
  pub seat : FuseSeat

-- cuts with one pick left these images of ports in a row, and their seats came back
pub record AreCutPorts (pick : ℕ) (ports : List EmuPort) (images : List PortImage)
    (seats : List FuseSeat) : Type 0 where
  pub cuts : List CutPort
  pub each : All (λ c. IsCutPort pick c.port c.image c.seat) cuts
  pub ports_are : ports ≡ map (λ c. c.port) cuts
  pub images_are : images ≡ map (λ c. c.image) cuts
  pub seats_are : seats ≡ map (λ c. c.seat) cuts

-- the ports of a drive, the root's last
abbrev pub row_of : Ports EmuPort → List EmuPort
row_of ports = ports.queues.items ++ ports.root ∷ []

-- no command of the ports is to fail, and they have no fault
pub record AreSound (g : Geometry) (ports : Ports EmuPort) : Type 0 where
  pub queues : All (λ p. emu_faults p ≡ []) ports.queues.items
  pub root : emu_faults ports.root ≡ []
  pub none : (q : ℕ) → q < queues_of g → (port_at (drive_of emu_state ports).queues q).fail ≡ None
  pub root_none : (emu_state ports.root).fail ≡ None

-- A recovery through ports without faults is done, with no fault; or it was cut by the power of one port,
-- and what it was to find was looked up before.
abbrev pub HasRun : Geometry → (old new : DriveState) → (before after : DriveFaults) → Recovered
    → (whole : Bool) → Type 0
HasRun g old new before after found true = HasRecovered g old found.prefix found.base new × (after ≡ before)
HasRun g old new before after found false =
    (short : IsCutShort g Off old new) × (found.prefix ≡ length short.ds) × (found.base ≡ short.top)
    × (port : Option ℕ) × OneGains port PowerOff before after

-- the image with other ports
abbrev pub with_ports : DriveImage → List PortImage → DriveImage
with_ports x images = record { geometry = x.geometry; ports = images }

-- how many tickets below the limit the seats drew
abbrev pub happened_at : ℕ → List FuseSeat → ℕ
happened_at l seats = total (λ s. below l (tickets_of s)) seats

-- How a recovery of `events` events ended: whole, where all of them happened; or the power of one port went
-- off, and fewer happened.
abbrev pub EndsBy : (x : DriveImage) → (ds : List Descriptor) → (top events : ℕ) → (limit : Option ℕ)
    → (whole : Bool) → (y : DriveImage) → List FuseSeat → Type 0
EndsBy x ds top events limit true y seats =
    ((l : ℕ) → limit ≡ Some l → happened_at l seats ≡ events) × IsAllHome x ds top y
EndsBy x ds top events limit false y seats =
    (l : ℕ) × (limit ≡ Some l) × (s : FuseSeat) × Contains seats s × (0 < above l (tickets_of s))
    × (happened_at l seats < events) × IsStillStanding x ds top y

-- what a recovery left of an image, and the seats of the fuse of its power
pub record IsLeftBy (x : DriveImage) (fuse : FuseName) (found : Recovered) (whole : Bool)
    (images : List PortImage) (seats : List FuseSeat) : Type 0 where
  pub ds : List Descriptor
  pub top : ℕ
  pub writes : Writes
  pub plan : IsToRecover x ds top writes
  pub prefix : found.prefix ≡ length ds
  pub base : found.base ≡ top
  pub drive : IsDrive (with_ports x images)
  pub doorbells : (q : ℕ) → q < queues_of x.geometry
      → (view_of (with_ports x images)).doorbell q ≡ (view_of x).doorbell q
  pub own : All (λ s. fuse_of s ≡ fuse) seats
  pub count : length seats ≡ queues_of x.geometry + 1
  pub ends : EndsBy x ds top (events_of x writes top) fuse.limit whole (with_ports x images) seats

-- Whence the images came that a recovery left: the drive started from the image, with this pick as the seed
-- of what its ports left to chance; it was recovered, whole or until its power went off; and cuts with the
-- same pick left these images of its ports. No clause states what the recovery left to chance.
pub record IsPicked (x : DriveImage) (pick : ℕ) (fuse : FuseName) (found : Recovered) (whole : Bool)
    (images : List PortImage) (seats : List FuseSeat) : Type 0 where
  pub old : Ports EmuPort
  pub started : AreStarted fuse None x old
  pub seeded : AreSeeded x.geometry pick old
  pub new : Ports EmuPort
  pub ran : HasRun x.geometry (drive_of emu_state old) (drive_of emu_state new)
      (faults_on emu_faults old) (faults_on emu_faults new) found whole
  pub cut : AreCutPorts pick (row_of new) images seats

-- the same of a recovery whose power lasts for `limit` events, if that is given
pub record IsPickedRecovery (x : DriveImage) (limit : Option ℕ) (pick : ℕ)
    (r : RecoveredImage) : Type 0 where
  pub fuse : FuseName
  pub power : fuse.limit ≡ limit
  pub seats : List FuseSeat
  pub picked : IsPicked x pick fuse r.found (is_none r.cut) r.image.ports seats
