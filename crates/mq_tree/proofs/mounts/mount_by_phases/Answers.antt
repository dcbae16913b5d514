use Rattle.std.proofs.Common.{subst, sym}
use Rattle.std.proofs.lemmas.Result.{err_from_is_err_and}
use Rattle.mq_tree.specs.Decoded.{volume_in}
use Rattle.mq_tree.specs.Trees.{IsAlike, kept}
use Rattle.mq_tree.proofs.TreesMounted.{mounted-alike, mounted-countable, mounted-listing, mounted-tree, refused-none_by_phase}
use Rattle.mq_tree.proofs.mounts.mount_by_phases.Goals as goal

pub returns-in_err-contents-clause-none : goal.returns-in_err-contents-clause-none
returns-in_err-contents-clause-none c =
    let p = err_from_is_err_and c.from_residual-in_err-contents.result c.from_residual-in_err-contents.ensures.1 in
    rw (p.1, p.2) (refused-none_by_phase c.args.geometry c.args.blocks.now c.in_err-contents.field-0.0 c.are_pages.ensures c.in_err-contents.ensures.cause)

pub new-requires : goal.new-requires
new-requires c = mounted-countable c.args.geometry c.args.blocks.now (kept c.in_ok-contents.contents.items) c.are_pages.ensures c.in_ok-contents.ensures.clean c.in_ok-contents.ensures.alike

pub returns-clause-tree : goal.returns-clause-tree
returns-clause-tree c =
    mounted-tree c.args.geometry c.args.blocks.now c.new.result c.are_pages.ensures c.in_ok-contents.ensures.clean (subst (λ t. IsAlike t (volume_in c.args.geometry c.args.blocks.now)) (sym c.new.ensures) c.in_ok-contents.ensures.alike)

pub returns-clause-alike : goal.returns-clause-alike
returns-clause-alike c v laid = mounted-alike c.args.geometry c.args.blocks.now c.new.result v (subst (λ t. IsAlike t (volume_in c.args.geometry c.args.blocks.now)) (sym c.new.ensures) c.in_ok-contents.ensures.alike) laid

pub returns-clause-listing : goal.returns-clause-listing
returns-clause-listing c =
    mounted-listing c.args.geometry c.args.blocks.now c.new.result c.are_pages.ensures c.in_ok-contents.ensures.clean (subst (λ t. IsAlike t (volume_in c.args.geometry c.args.blocks.now)) (sym c.new.ensures) c.in_ok-contents.ensures.alike)
