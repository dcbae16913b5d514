use Rattle.std.proofs.Common.{◌≡◌, ◌⊎◌, None, ap, subst}
use Rattle.std.proofs.lemmas.Result.{IfErr-weaker, IfOk-weaker}
use Rattle.mq_blocks.specs.Journal.{Shown}
use Rattle.mq_blocks.specs.declared.geometry.Geometry.{Geometry}
use Rattle.mq_drive.specs.Emu.{emu_state}
use Rattle.mq_drive.specs.Seats.{name_of}
use Rattle.mq_image.specs.File.{DriveImage}
use Rattle.mq_image_ops.specs.Dump.{IsDump, IsDumpOf}
use Rattle.mq_image_ops.specs.Standing.{RefusesDrive}
use Rattle.mq_recover.specs.Drives.{drive_of, view_over}
use Rattle.mq_recover.specs.Images.{RefusesImage}
use Rattle.mq_recover.specs.declared.refusal.ImageFault.TheVariants.{OutOfMemory}
use Rattle.mq_image_ops.proofs.Standing.{readable-under, refuses-under}
use Rattle.mq_image_ops.proofs.Views.{started-view, still-under}
use Rattle.mq_image_ops.proofs.dump.dump_image.Goals as goal

pub dump_drive-requires : goal.dump_drive-requires
dump_drive-requires c = still-under (name_of c.in_ok-fuse.fuse) None c.image.inside.geometry c.args.image (drive_of emu_state c.in_ok-ports.ports) c.requires (ap (λ (x : DriveImage). x.geometry) c.image.view_is) c.in_ok-ports.ensures.drive.states

pub returns-clause-ok : goal.returns-clause-ok
returns-clause-ok c =
    let g = c.image.inside.geometry in
    let d = drive_of emu_state c.in_ok-ports.ports in
    let same : g ≡ c.args.image.geometry = ap (λ (x : DriveImage). x.geometry) c.image.view_is in
    IfOk-weaker c.dump_drive.result (λ v. IsDumpOf g (view_over g d) v.items) (λ v. IsDump c.args.image v.items) (λ v is.
    subst (λ (i : Shown). IsDumpOf c.args.image.geometry i v.items) (started-view (name_of c.in_ok-fuse.fuse) None c.args.image d c.in_ok-ports.ensures.drive.states)
    (subst (λ (h : Geometry). IsDumpOf h (view_over h d) v.items) same is))
    c.dump_drive.ensures.ok

pub returns-clause-refused : goal.returns-clause-refused
returns-clause-refused c =
    let g = c.image.inside.geometry in
    let d = drive_of emu_state c.in_ok-ports.ports in
    let same : g ≡ c.args.image.geometry = ap (λ (x : DriveImage). x.geometry) c.image.view_is in
    IfErr-weaker c.dump_drive.result (λ e. (e ≡ OutOfMemory) ⊎ RefusesImage g d e) (λ e. (e ≡ OutOfMemory) ⊎ RefusesDrive c.args.image e) (λ e refused. refuses-under (name_of c.in_ok-fuse.fuse) g c.args.image d e same c.in_ok-ports.ensures.drive.states refused) c.dump_drive.ensures.refused

pub returns-clause-complete : goal.returns-clause-complete
returns-clause-complete c = λ ds top read.
    let same : c.image.inside.geometry ≡ c.args.image.geometry = ap (λ (x : DriveImage). x.geometry) c.image.view_is in
    c.dump_drive.ensures.complete (readable-under (name_of c.in_ok-fuse.fuse) None c.image.inside.geometry c.args.image (drive_of emu_state c.in_ok-ports.ports) ds top same c.in_ok-ports.ensures.drive.states read)
