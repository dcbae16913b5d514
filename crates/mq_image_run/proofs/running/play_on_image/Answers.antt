use Rattle.std.proofs.Common.{ap, sym, subst}
use Rattle.std.proofs.lemmas.Result.{err_from_is_err_and}
use Rattle.mq_blocks.specs.declared.geometry.Geometry.{Geometry}
use Rattle.mq_drive.specs.Seats.{name_of}
use Rattle.mq_image.specs.File.{DriveImage}
use Rattle.mq_image_run.specs.Drives.{AreKept, IsReady}
use Rattle.mq_image_run.specs.Refusals.{wanting}
use Rattle.mq_image_run.proofs.DrivesImages.{run-drive}
use Rattle.mq_image_run.proofs.Refusals.{unplayed}
use Rattle.mq_image_run.proofs.running.play_on_image.Goals as goal

pub returns-in_err-recovered-clause-refused : goal.returns-in_err-recovered-clause-refused
returns-in_err-recovered-clause-refused g c =
    let p = err_from_is_err_and c.from_residual.result c.from_residual.ensures.1 in
    rw (p.1, p.2) c.in_err-recovered.ensures.refused

pub returns-in_err-fuse-clause-refused : goal.returns-in_err-fuse-clause-refused
returns-in_err-fuse-clause-refused g c =
    let p = err_from_is_err_and c.from_residual-in_err-fuse.result c.from_residual-in_err-fuse.ensures.1 in
    rw (p.1, p.2) wanting

pub play_to_stop-requires-clause-may : goal.play_to_stop-requires-clause-may
play_to_stop-requires-clause-may g c = λ ports ready.
    c.requires.may ports (subst (λ (h : Geometry). IsReady h ports) c.in_ok-recovered.ensures.ok.0.geometry ready)

pub play_to_stop-requires-clause-keeps : goal.play_to_stop-requires-clause-keeps
play_to_stop-requires-clause-keeps g c = λ ports r post.
    subst (λ (h : Geometry). AreKept h ports r.1) (sym c.in_ok-recovered.ensures.ok.0.geometry) (c.requires.keeps ports r post)

pub returns-in_err-stopped-clause-refused : goal.returns-in_err-stopped-clause-refused
returns-in_err-stopped-clause-refused g c =
    let p = err_from_is_err_and c.from_residual-in_err-stopped.result c.from_residual-in_err-stopped.ensures.1 in
    let is = c.in_ok-recovered.ensures.ok in
    rw (p.1, p.2) (unplayed c.args.image c.in_ok-recovered.recovered is.0 _ c.args.options.fail (name_of c.in_ok-fuse.fuse) is.1 c.in_err-stopped.field-0.0 c.in_err-stopped.ensures.refused)

pub returns-clause-ok : goal.returns-clause-ok
returns-clause-ok g c =
    let is = c.in_ok-recovered.ensures.ok in
    let recovered = c.in_ok-recovered.recovered in
    let fuse = name_of c.in_ok-fuse.fuse in
    let same = ap (λ (i : DriveImage). i.geometry) c.image.view_is in
    let stopped = c.in_ok-stopped.stopped in
    let stops = c.in_ok-stopped.ensures.ok in
    record {
      recovered = recovered;
      recovery = is.0;
      within = is.1;
      base_is = c.base_of-base.ensures;
      fuse = fuse;
      power = c.in_ok-fuse.ensures.fuse.0;
      stops = stops;
      geometry = same;
      drive = run-drive _ c.args.image recovered is.0 fuse c.args.options stopped.driven.played stopped.driven.failed stopped.driven.images.items stopped.events stops c.image.inside.geometry same;
      widths = c.an_image_fits_its_file.ensures;
    }
