use Rattle.std.proofs.Common.{◌≡◌, ◌≢◌, List, Option, ℕ, ap, subst}
use Rattle.std.proofs.lemmas.Result.{err_from_is_err_and}
use Rattle.mq_image.specs.File.{DriveImage}
use Rattle.mq_image_ops.specs.Refusals.{refusal_for}
use Rattle.mq_tree.specs.Corrupt.{Refuses}
use Rattle.mq_tree.specs.Laid.{IsTreeOf, map_of}
use Rattle.mq_tree.specs.Volume.{Things}
use Rattle.mq_tree.specs.declared.corrupt.MountRefusal.TheVariants as mount
use Rattle.mq_image_ops.proofs.StandingVolumes.{image-refuses, mount-refuses, mount-wants}
use Rattle.mq_image_ops.proofs.volume.read_volume.Goals as goal

pub returns-in_err-blocks-clause-refused : goal.returns-in_err-blocks-clause-refused
returns-in_err-blocks-clause-refused c =
    let p = err_from_is_err_and c.from_residual.result c.from_residual.ensures.1 in
    rw (p.1, p.2) (image-refuses c.args.image c.in_err-blocks.field-0.0 c.in_err-blocks.ensures.refused)

pub returns-in_err-blocks-clause-complete : goal.returns-in_err-blocks-clause-complete
returns-in_err-blocks-clause-complete c = λ v for.
    let p = err_from_is_err_and c.from_residual.result c.from_residual.ensures.1 in
    rw (p.1, p.2) (ap refusal_for (c.in_err-blocks.ensures.complete for.ds for.top for.read))

pub returns-in_err-mount-clause-refused : goal.returns-in_err-mount-clause-refused
returns-in_err-mount-clause-refused c =
    let g = c.image.inside.geometry in
    let same : g ≡ c.args.image.geometry = ap (λ (x : DriveImage). x.geometry) c.image.view_is in
    let e = c.in_err-mount.field-0.0 in
    let refuses : Refuses g c.in_ok-blocks.blocks.items e = subst (λ (l : List (Option (List ℕ))). Refuses g l e) c.deref.ensures.value c.in_err-mount.ensures.cause in
    let none = subst (λ (l : List (Option (List ℕ))). e ≢ mount.OutOfMemory → (t : Things) → IsTreeOf g (map_of g l) t → ⊥) c.deref.ensures.value c.in_err-mount.ensures.none in
    let p = err_from_is_err_and c.from_residual-in_err-mount.result c.from_residual-in_err-mount.ensures.1 in
    rw (p.1, p.2) (mount-refuses g c.args.image same c.in_ok-blocks.blocks.items c.in_ok-blocks.ensures.ok e refuses none)

pub returns-in_err-mount-clause-complete : goal.returns-in_err-mount-clause-complete
returns-in_err-mount-clause-complete c = λ v for.
    let g = c.image.inside.geometry in
    let same : g ≡ c.args.image.geometry = ap (λ (x : DriveImage). x.geometry) c.image.view_is in
    let e = c.in_err-mount.field-0.0 in
    let p = err_from_is_err_and c.from_residual-in_err-mount.result c.from_residual-in_err-mount.ensures.1 in
    rw (p.1, p.2) (mount-wants g c.args.image same c.in_ok-blocks.blocks.items c.in_ok-blocks.ensures.ok v e for
    (subst (λ (l : List (Option (List ℕ))). e ≢ mount.OutOfMemory → (t : Things) → IsTreeOf g (map_of g l) t → ⊥) c.deref.ensures.value c.in_err-mount.ensures.none))
