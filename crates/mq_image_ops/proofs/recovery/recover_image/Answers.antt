use Rattle.std.proofs.Common.{◌≡◌, ◌∙◌, Bool, ap, subst, sym}
use Rattle.std.specs.Prelude.{is_none}
use Rattle.std.proofs.lemmas.Result.{err_from_is_err_and}
use Rattle.mq_drive.specs.Seats.{name_of}
use Rattle.mq_image.specs.File.{DriveImage}
use Rattle.mq_image_ops.specs.Cuts.{IsPicked}
use Rattle.mq_image_ops.proofs.CutsRecoverings.{answers, none-whole}
use Rattle.mq_image_ops.proofs.recovery.recover_image.Goals as goal

pub returns-in_err-ran-clause-complete : goal.returns-in_err-ran-clause-complete
returns-in_err-ran-clause-complete c = λ ds top read.
    let p = err_from_is_err_and c.from_residual-in_err-ran.result c.from_residual-in_err-ran.ensures.1 in
    rw (p.1, p.2) (c.in_err-ran.ensures.complete ds top read)

pub returns-clause-ok : goal.returns-clause-ok
returns-clause-ok c =
    let ran = c.in_ok-ran.ran in
    let left = c.in_ok-ran.left in
    let close = c.close-events.ensures in
    answers c.args.image c.args.cut (name_of c.in_ok-fuse.fuse) ran.found left.images.items left.seats.items c.close-events.result c.in_ok-fuse.ensures.fuse.0 close.happened close.most close.off c.image.inside.geometry ran.whole c.cut_after.result
    (ap (λ (x : DriveImage). x.geometry) c.image.view_is) c.cut_after.ensures c.an_image_fits_its_file.ensures c.in_ok-ran.ensures.ok

pub returns-clause-chosen : goal.returns-clause-chosen
returns-clause-chosen c =
    let ran = c.in_ok-ran.ran in
    let left = c.in_ok-ran.left in
    let cut-is : is_none c.cut_after.result ≡ ran.whole = ap is_none c.cut_after.ensures ∙ none-whole ran.whole c.close-events.result in
    record {
      fuse = name_of c.in_ok-fuse.fuse;
      power = c.in_ok-fuse.ensures.fuse.0;
      seats = left.seats.items;
      picked = subst (λ (whole : Bool). IsPicked c.args.image c.args.pick (name_of c.in_ok-fuse.fuse) ran.found whole left.images.items left.seats.items) (sym cut-is) c.in_ok-ran.ensures.chosen;
    }
