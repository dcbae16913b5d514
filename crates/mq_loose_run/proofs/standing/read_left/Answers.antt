use Rattle.std.proofs.Common.{ap}
use Rattle.mq_drive.specs.Seats.{name_of}
use Rattle.mq_image.specs.File.{DriveImage}
use Rattle.mq_loose_run.proofs.LeftImages.{image_same, read_of, readable, still}
use Rattle.mq_loose_run.proofs.standing.read_left.Goals as goal

pub read_ports-requires-clause-still : goal.read_ports-requires-clause-still
read_ports-requires-clause-still c =
    still (name_of c.in_ok-fuse.fuse) c.image.inside.geometry c.args.image (ap (λ (x : DriveImage). x.geometry) c.image.view_is) c.requires.drive c.in_ok-ports.ports c.in_ok-ports.ensures.drive

pub read_ports-requires-clause-readable : goal.read_ports-requires-clause-readable
read_ports-requires-clause-readable c =
    readable (name_of c.in_ok-fuse.fuse) c.image.inside.geometry c.args.image (ap (λ (x : DriveImage). x.geometry) c.image.view_is) c.requires.drive c.in_ok-ports.ports c.in_ok-ports.ensures.drive c.loose_images_are_whole.ensures.readable c.requires.readable

pub returns-clause-same : goal.returns-clause-same
returns-clause-same c =
    image_same (name_of c.in_ok-fuse.fuse) c.image.inside.geometry c.args.image (ap (λ (x : DriveImage). x.geometry) c.image.view_is) c.requires.drive c.in_ok-ports.ports c.in_ok-ports.ensures.drive 0 c.in_ok-left.left.images.items c.in_ok-left.left.seats.items c.in_ok-left.ensures

pub returns-clause-read : goal.returns-clause-read
returns-clause-read c =
    read_of (name_of c.in_ok-fuse.fuse) c.image.inside.geometry c.args.image (ap (λ (x : DriveImage). x.geometry) c.image.view_is) c.requires.drive c.in_ok-ports.ports c.in_ok-ports.ensures.drive c.in_ok-standing.standing c.in_ok-standing.ensures
