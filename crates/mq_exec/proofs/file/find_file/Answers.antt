use Rattle.std.proofs.Common.{◌≡◌}
use Rattle.std.proofs.lemmas.Result.{err_from_is_err_and}
use Rattle.mq_exec.proofs.PlansTargets.{found-file, past-inode, under, under-low}
use Rattle.mq_inodes.specs.Fits.{Agrees}
use Rattle.mq_inodes.specs.Pages.{pages_of}
use Rattle.mq_inodes.specs.Walks.{LeadsPast}
use Rattle.mq_inodes.proofs.MissingPages.{lacks-weaker}
use Rattle.mq_layout.specs.Places.{inode_block}
use Rattle.mq_tree.specs.Volume.{Volume, way}
use Rattle.mq_exec.proofs.file.find_file.Goals as goal

pub inode-requires-clause-low : goal.inode-requires-clause-low
inode-requires-clause-low c =
    let g = c.args.working.now.geometry in
    let v = c.requires.0 in
    let sound = c.requires.1.sound in
    under-low g v (way c.args.path.now) c.in-In-default-Some.directory c.in-In-default-Some.number sound (under g v (way c.args.path.now) c.in_ok-target.field-0 _ _ _ sound c.in-In-default-Some.is c.in-In-default-Some.found-is (c.in_ok-target.ensures.ok v c.requires.1))

pub returns-in_err-inode-clause-lack : goal.returns-in_err-inode-clause-lack
returns-in_err-inode-clause-lack c =
    let g = c.args.working.now.geometry in
    let pages = pages_of c.args.working.now in
    let w = way c.args.path.now in
    let p = err_from_is_err_and c.from_residual-in_err-inode.result c.from_residual-in_err-inode.ensures.1 in
    rw (p.1, p.2) (lacks-weaker pages (λ b. b ≡ inode_block g c.in-In-default-Some.number) (λ b. (v : Volume) → Agrees g pages v → LeadsPast g v w b) c.in_err-inode.field-0.0
    (λ b at v agrees. past-inode g v w c.in-In-default-Some.directory c.in-In-default-Some.number b (under g v w c.in_ok-target.field-0 _ _ _ agrees.sound c.in-In-default-Some.is c.in-In-default-Some.found-is (c.in_ok-target.ensures.ok v agrees)) at) c.in_err-inode.ensures.lack)

pub returns-clause-ok : goal.returns-clause-ok
returns-clause-ok c v agrees =
    let g = c.args.working.now.geometry in
    let w = way c.args.path.now in
    found-file v c.args.path.now c.in-In-default-Some.directory c.in-In-default-Some.number c.in_ok-inode.inode (under g v w c.in_ok-target.field-0 _ _ _ agrees.sound c.in-In-default-Some.is c.in-In-default-Some.found-is (c.in_ok-target.ensures.ok v agrees)) (c.in_ok-inode.ensures.ok v agrees) c.if-inode-eq-DIRECTORY.false
