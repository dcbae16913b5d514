-- What an image shows, and the drive that starts from it.
use Rattle.std.specs.Prelude.{ℕ, ◌+◌, List, [], ◌∷◌, ◌++◌, Option, Some, None, nat_eq, if◌then◌else◌}
use Rattle.mq_blocks.specs.Drive.{FuseName, PortImage, PortState}
use Rattle.mq_blocks.specs.Journal.{Shown, shown}
use Rattle.mq_blocks.specs.declared.geometry.Geometry.{Geometry}
use Rattle.mq_drive.specs.Start.{number_of, start_of}
use Rattle.mq_drive.specs.declared.role.Role.{Role}
use Rattle.mq_drive.specs.declared.role.Role.TheVariants.{Queue, Root}
use Rattle.mq_image.specs.File.{DriveImage, queue_ports, root_port, zones}
use Rattle.mq_image_ops.specs.declared.ports.Failing.{Failing}
use Rattle.mq_nvme.specs.Says.{journal_reading}
use Rattle.mq_recover.specs.Drives.{DriveState, drive}

-- the journal and the home blocks, as recovery sees them
abbrev pub view_of : DriveImage → Shown
view_of x = shown journal_reading x.geometry (queue_ports x) (root_port x)

-- the home blocks by rising number: the metadata region is the root's, and each zone is behind a queue's
-- journal area
abbrev pub home_blocks : DriveImage → List (Option (List ℕ))
home_blocks x = (root_port x).blocks ++ zones x.geometry (queue_ports x)

-- which command of the port with this number is to fail, where some command of it is
abbrev pub command_of : Option Failing → (port : ℕ) → Option ℕ
command_of None port = None
command_of (Some f) port = if nat_eq f.port port then Some f.command else None

-- the port of a role, which starts from this image
abbrev pub port_from : Geometry → FuseName → Option Failing → Role → PortImage → PortState
port_from g fuse fail role i = start_of g role i fuse (command_of fail (number_of g role))

-- the ports of the queues from this one on, which start from these images
abbrev pub starts_from : Geometry → FuseName → Option Failing → ℕ → List PortImage → List PortState
starts_from g fuse fail q [] = []
starts_from g fuse fail q (i ∷ is) = port_from g fuse fail (Queue q) i ∷ starts_from g fuse fail (q + 1) is

-- the drive whose ports start from an image, with the power of a fuse, and of which this command is to fail
abbrev pub drive_from : FuseName → Option Failing → DriveImage → DriveState
drive_from fuse fail x =
    drive (starts_from x.geometry fuse fail 0 (queue_ports x))
    (port_from x.geometry fuse fail Root (root_port x))
