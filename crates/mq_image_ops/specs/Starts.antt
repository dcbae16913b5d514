-- The ports of a drive that starts from an image.
use Rattle.std.specs.Prelude.{◌≡◌, ◌<◌, ℕ, List, [], All, Option, get_or, length}
use Rattle.mq_blocks.specs.Drive.{FuseName}
use Rattle.mq_blocks.specs.declared.geometry.Geometry.{Geometry}
use Rattle.mq_drive.specs.Emu.{chance_of, drawn_by, emu_faults, emu_state, executed_of}
use Rattle.mq_drive.specs.Seats.{fuse_of, tickets_of}
use Rattle.mq_drive.specs.Start.{chance_at_start}
use Rattle.mq_drive.specs.declared.emu.EmuPort.{EmuPort}
use Rattle.mq_drive.specs.declared.fuse.FuseSeat.{FuseSeat}
use Rattle.mq_drive.specs.declared.port.Ports.{Ports}
use Rattle.mq_drive.specs.declared.role.Role.{Role}
use Rattle.mq_drive.specs.declared.role.Role.TheVariants.{Queue, Root}
use Rattle.mq_image.specs.File.{DriveImage}
use Rattle.mq_image_ops.specs.Views.{drive_from}
use Rattle.mq_image_ops.specs.declared.ports.Failing.{Failing}
use Rattle.mq_recover.specs.Drives.{drive_of}

-- the seat has drawn no ticket of this fuse
abbrev pub IsFreshSeat : FuseName → FuseSeat → Type 0
IsFreshSeat fuse s = (fuse_of s ≡ fuse) × (tickets_of s ≡ [])

-- `count` of them
pub record AreFreshSeats (fuse : FuseName) (count : ℕ) (seats : List FuseSeat) : Type 0 where
  pub count_is : length seats ≡ count
  pub each : All (IsFreshSeat fuse) seats

-- the port has no fault, its seat has drawn no ticket, and it has executed no command
pub record IsFreshPort (p : EmuPort) : Type 0 where
  pub faults : emu_faults p ≡ []
  pub tickets : drawn_by p ≡ []
  pub executed : executed_of p ≡ 0

-- these are the ports of the drive that starts from the image, of which this command is to fail
pub record AreStarted (fuse : FuseName) (fail : Option Failing) (x : DriveImage)
    (p : Ports EmuPort) : Type 0 where
  pub states : drive_of emu_state p ≡ drive_from fuse fail x
  pub queues : All IsFreshPort p.queues.items
  pub root : IsFreshPort p.root

-- what the port leaves to chance is what its role and this seed say of a start
abbrev pub IsSeeded : Geometry → (seed : ℕ) → Role → EmuPort → Type 0
IsSeeded g seed role p = chance_of p ≡ chance_at_start g role seed

-- so it is of each port of a drive
pub record AreSeeded (g : Geometry) (seed : ℕ) (p : Ports EmuPort) : Type 0 where
  pub queues : (q : ℕ) (d : EmuPort) → q < length p.queues.items
      → IsSeeded g seed (Queue q) (get_or p.queues.items q d)
  pub root : IsSeeded g seed Root p.root
