use Rattle.std.proofs.Common.{None, ap, subst}
use Rattle.std.proofs.lemmas.Result.{err_from_is_err_and}
use Rattle.mq_blocks.specs.declared.geometry.Geometry.{Geometry}
use Rattle.mq_drive.specs.Emu.{emu_faults, emu_state}
use Rattle.mq_drive.specs.Seats.{name_of}
use Rattle.mq_image.specs.File.{DriveImage}
use Rattle.mq_image_ops.specs.Cuts.{HasRun}
use Rattle.mq_recover.specs.Drives.{drive_of, faults_on}
use Rattle.mq_image_ops.proofs.CutsRecoverings.{left-under, started-sound}
use Rattle.mq_image_ops.proofs.Standing.{readable-under, refuses-under}
use Rattle.mq_image_ops.proofs.Views.{still-under}
use Rattle.mq_image_ops.proofs.recovery.recover_until.Goals as goal

pub recover_ports-requires-clause-still : goal.recover_ports-requires-clause-still
recover_ports-requires-clause-still c = still-under (name_of c.args.fuse.now) None c.image.inside.geometry c.args.image (drive_of emu_state c.in_ok-ports.ports) c.requires.image (ap (λ (x : DriveImage). x.geometry) c.image.view_is) c.in_ok-ports.ensures.drive.states

pub recover_ports-requires-clause-sound : goal.recover_ports-requires-clause-sound
recover_ports-requires-clause-sound c = started-sound c.image.inside.geometry (name_of c.args.fuse.now) c.args.image c.in_ok-ports.ports (ap (λ (x : DriveImage). x.geometry) c.image.view_is) c.requires.image c.in_ok-ports.ensures.drive

pub returns-in_err-ran-clause-refused : goal.returns-in_err-ran-clause-refused
returns-in_err-ran-clause-refused c =
    let p = err_from_is_err_and c.from_residual-in_err-ran.result c.from_residual-in_err-ran.ensures.1 in
    rw (p.1, p.2) (refuses-under (name_of c.args.fuse.now) c.image.inside.geometry c.args.image (drive_of emu_state c.in_ok-ports.ports) c.in_err-ran.field-0.0 (ap (λ (x : DriveImage). x.geometry) c.image.view_is) c.in_ok-ports.ensures.drive.states c.in_err-ran.ensures.refused)

pub returns-in_err-ran-clause-complete : goal.returns-in_err-ran-clause-complete
returns-in_err-ran-clause-complete c = λ ds top read.
    let p = err_from_is_err_and c.from_residual-in_err-ran.result c.from_residual-in_err-ran.ensures.1 in
    rw (p.1, p.2) (c.in_err-ran.ensures.complete (readable-under (name_of c.args.fuse.now) None c.image.inside.geometry c.args.image (drive_of emu_state c.in_ok-ports.ports) ds top (ap (λ (x : DriveImage). x.geometry) c.image.view_is) c.in_ok-ports.ensures.drive.states read))

pub returns-clause-ok : goal.returns-clause-ok
returns-clause-ok c =
    let ran = c.in_ok-ran.ran in
    let left = c.in_ok-left.left in
    left-under c.image.inside.geometry c.args.image (name_of c.args.fuse.now) c.in_ok-ports.ports c.recover_ports.new.ports ran.found ran.whole c.args.pick left.images.items left.seats.items (ap (λ (x : DriveImage). x.geometry) c.image.view_is) c.requires.image
    c.in_ok-ports.ensures.drive c.in_ok-ran.ensures.ok c.recover_ports.ensures.bounds c.in_ok-left.ensures

pub returns-clause-chosen : goal.returns-clause-chosen
returns-clause-chosen c =
    let old = c.in_ok-ports.ports in
    let new = c.recover_ports.new.ports in
    let ran = c.in_ok-ran.ran in
    record {
      old = old;
      started = c.in_ok-ports.ensures.drive;
      seeded = c.in_ok-ports.ensures.chance;
      new = new;
      ran = subst (λ (g : Geometry). HasRun g (drive_of emu_state old) (drive_of emu_state new) (faults_on emu_faults old) (faults_on emu_faults new) ran.found ran.whole) (ap (λ (x : DriveImage). x.geometry) c.image.view_is) c.in_ok-ran.ensures.ok;
      cut = c.in_ok-left.ensures;
    }
