use Rattle.std.proofs.Common.{◌+◌, sym, subst}
use Rattle.mq_blocks.specs.Geometry.{queues_of}
use Rattle.mq_blocks.specs.declared.geometry.Geometry.{Geometry}
use Rattle.mq_drive.specs.Seats.{name_of}
use Rattle.mq_image.specs.File.{DriveImage}
use Rattle.mq_image_ops.specs.Starts.{AreFreshSeats, AreSeeded}
use Rattle.mq_recover.proofs.RefusalsChains.{ok-map}
use Rattle.mq_command_blocks.proofs.CutsDrives.{blank_here, clean, committed, count, never_failed, started_here}
use Rattle.mq_command_blocks.proofs.blocks.commit_until.Goals as goal

pub start_ports-requires-clause-seats : goal.start_ports-requires-clause-seats
start_ports-requires-clause-seats c =
    subst (λ (h : Geometry). AreFreshSeats (name_of c.args.fuse.now) (queues_of h + 1) c.args.seats.items) (sym c.in_ok-image.ensures.is.geometry_is) c.requires.seats

pub commit_text-ports-requires-clause-one : goal.commit_text-ports-requires-clause-one
commit_text-ports-requires-clause-one c =
    let g = c.args.geometry in
    let x : DriveImage = c.in_ok-image.image in
    let blank = c.in_ok-image.ensures.is in
    let f = name_of c.args.fuse.now in
    let ports = c.in_ok-ports.ports in
    count g c.requires.geometry f x.ports (blank_here g x blank) ports (started_here g f x ports blank.geometry_is c.in_ok-ports.ensures.drive)

pub commit_text-ports-requires-clause-clean : goal.commit_text-ports-requires-clause-clean
commit_text-ports-requires-clause-clean c = λ p at.
    let g = c.args.geometry in
    let x : DriveImage = c.in_ok-image.image in
    let blank = c.in_ok-image.ensures.is in
    let f = name_of c.args.fuse.now in
    let ports = c.in_ok-ports.ports in
    clean g c.requires.geometry f x.ports (blank_here g x blank) ports (started_here g f x ports blank.geometry_is c.in_ok-ports.ensures.drive) p at

pub check_memory-requires : goal.check_memory-requires
check_memory-requires c =
    let g = c.args.geometry in
    let x : DriveImage = c.in_ok-image.image in
    let blank = c.in_ok-image.ensures.is in
    let f = name_of c.args.fuse.now in
    let ports = c.in_ok-ports.ports in
    let text = c.commit_text-ports.ensures in
    never_failed g c.requires.geometry f x.ports (blank_here g x blank) ports (started_here g f x ports blank.geometry_is c.in_ok-ports.ensures.drive) c.args.text.now c.commit_text-ports.result.0 c.commit_text-ports.result.1 text.queues text.bounds text.cause

pub returns-clause-stands : goal.returns-clause-stands
returns-clause-stands c =
    let g = c.args.geometry in
    let x : DriveImage = c.in_ok-image.image in
    let blank = c.in_ok-image.ensures.is in
    let f = name_of c.args.fuse.now in
    let ports = c.in_ok-ports.ports in
    let text = c.commit_text-ports.ensures in
    ok-map c.cut_ports.result _ _ (λ left cut.
    committed g c.requires.geometry f x.ports (blank_here g x blank) ports (started_here g f x ports blank.geometry_is c.in_ok-ports.ensures.drive) c.args.text.now c.commit_text-ports.result.0 c.commit_text-ports.result.1 text.queues text.bounds text.cause
    text.root text.port text.ok text.events text.rung text.cut c.in_ok-check_memory.ensures c.requires.cut c.args.pick left.images.items left.seats.items cut) c.cut_ports.ensures

pub returns-clause-chosen : goal.returns-clause-chosen
returns-clause-chosen c =
    let blank = c.in_ok-image.ensures.is in
    ok-map c.cut_ports.result _ _ (λ left cut. record {
      blank = c.in_ok-image.image;
      is_blank = blank;
      old = c.in_ok-ports.ports;
      started = c.in_ok-ports.ensures.drive;
      seeded = subst (λ (h : Geometry). AreSeeded h c.args.pick c.in_ok-ports.ports) blank.geometry_is c.in_ok-ports.ensures.chance;
      new = c.commit_text-ports.result.0;
      cut = cut;
    }) c.cut_ports.ensures
