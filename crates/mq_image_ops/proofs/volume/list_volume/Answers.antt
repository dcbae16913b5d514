use Rattle.std.proofs.Common.{◌∙◌}
use Rattle.std.proofs.lemmas.Result.{err_from_is_err_and}
use Rattle.mq_image_ops.specs.Standing.{wanting}
use Rattle.mq_tree.proofs.VolumeAlike.{alike-text}
use Rattle.mq_image_ops.proofs.volume.list_volume.Goals as goal

pub returns-in_err-tree-clause-complete : goal.returns-in_err-tree-clause-complete
returns-in_err-tree-clause-complete c = λ v for.
    let p = err_from_is_err_and c.from_residual.result c.from_residual.ensures.1 in
    rw (p.1, p.2) (c.in_err-tree.ensures.complete v for)

pub returns-in_err-list_text-clause-refused : goal.returns-in_err-list_text-clause-refused
returns-in_err-list_text-clause-refused c =
    let p = err_from_is_err_and c.from_residual-in_err-list_text.result c.from_residual-in_err-list_text.ensures.1 in
    rw (p.1, p.2) wanting

pub returns-clause-ok : goal.returns-clause-ok
returns-clause-ok c =
    let found = c.in_ok-tree.ensures.ok in
    (found.0, found.1, c.in_ok-list_text.ensures ∙ alike-text c.in_ok-tree.tree found.0 found.2)
