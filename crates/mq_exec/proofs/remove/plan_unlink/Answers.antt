use Rattle.std.proofs.Common.{◌≡◌, ℕ, subst, refl}
use Rattle.std.specs.Prelude.{Some}
use Rattle.std.proofs.lemmas.Result.{err_from_is_err_and}
use Rattle.mq_exec.specs.Removes.{LooksFreed}
use Rattle.mq_exec.proofs.ReadsAnswering.{past-looks}
use Rattle.mq_exec.proofs.PlansRemoving.{file-other, last-makes, plans}
use Rattle.mq_exec.proofs.RemovesLooks.{file-freed, file-gone, file-pointers}
use Rattle.mq_exec.proofs.PlansTargets.{found-under, past-above}
use Rattle.mq_inodes.specs.Fits.{Agrees}
use Rattle.mq_inodes.specs.Pages.{pages_of}
use Rattle.mq_inodes.specs.Walks.{LooksIn}
use Rattle.mq_inodes.proofs.MissingPages.{lacks-weaker}
use Rattle.mq_tree.specs.Looks.{LooksAt}
use Rattle.mq_tree.specs.Volume.{Volume, node, way}
use Rattle.mq_tree.specs.declared.request.Request.TheVariants.{Unlink}
use Rattle.mq_exec.proofs.remove.plan_unlink.Goals as goal

pub open_directory-requires-clause-dir : goal.open_directory-requires-clause-dir
open_directory-requires-clause-dir c v agrees =
    (found-under c.args.working.now.geometry v c.args.path.now c.args.found.now agrees.sound (c.requires.found v agrees)).dir

pub returns-in_err-directory-clause-lack : goal.returns-in_err-directory-clause-lack
returns-in_err-directory-clause-lack c =
    let g = c.args.working.now.geometry in
    let pages = pages_of c.args.working.now in
    let f = c.args.found.now in
    let p = err_from_is_err_and c.from_residual.result c.from_residual.ensures.1 in
    rw (p.1, p.2) (lacks-weaker pages (λ b. (v : Volume) → Agrees g pages v → LooksIn g v f.directory b) (λ b. (v : Volume) → Agrees g pages v → (q : ℕ) → LooksAt g q v (Unlink c.args.path.now) b) c.in_err-directory.field-0.0
    (λ b h v agrees q. past-looks g q v c.args.path.now (Unlink c.args.path.now) b refl (past-above g v (way c.args.path.now) f.directory f.number b
    (found-under g v c.args.path.now f agrees.sound (c.requires.found v agrees)) (h v agrees))) c.in_err-directory.ensures.lack)

pub returns-in_err-gone-clause-lack : goal.returns-in_err-gone-clause-lack
returns-in_err-gone-clause-lack c =
    let g = c.args.working.now.geometry in
    let pages = pages_of c.args.working.now in
    let f = c.args.found.now in
    let p = err_from_is_err_and c.from_residual-in_err-gone.result c.from_residual-in_err-gone.ensures.1 in
    rw (p.1, p.2) (lacks-weaker pages (λ b. (v : Volume) → Agrees g pages v → (node v f.number).indirect ≡ Some b) (λ b. (v : Volume) → Agrees g pages v → (q : ℕ) → LooksAt g q v (Unlink c.args.path.now) b) c.in_err-gone.field-0.0
    (λ b h v agrees q.
    let found = c.requires.found v agrees in
    file-pointers g q v c.args.path.now f.directory f.number found.file.bytes b (file-gone g v c.args.path.now f agrees.sound c.requires.names found c.requires.last) (h v agrees)) c.in_err-gone.ensures.lack)

pub returns-in_err-look_to_free-clause-lack : goal.returns-in_err-look_to_free-clause-lack
returns-in_err-look_to_free-clause-lack c =
    let g = c.args.working.now.geometry in
    let pages = pages_of c.args.working.now in
    let f = c.args.found.now in
    let p = err_from_is_err_and c.from_residual-in_err-look_to_free.result c.from_residual-in_err-look_to_free.ensures.1 in
    rw (p.1, p.2) (lacks-weaker pages (λ b. (v : Volume) → Agrees g pages v → LooksFreed g v c.in_ok-gone.gone.number b) (λ b. (v : Volume) → Agrees g pages v → (q : ℕ) → LooksAt g q v (Unlink c.args.path.now) b) c.in_err-look_to_free.field-0.0
    (λ b h v agrees q.
    let found = c.requires.found v agrees in
    file-freed g q v c.args.path.now f.directory f.number found.file.bytes b (file-gone g v c.args.path.now f agrees.sound c.requires.names found c.requires.last)
    (subst (λ (x : ℕ). LooksFreed g v x b) c.in_ok-gone.ensures.number.0 (h v agrees))) c.in_err-look_to_free.ensures.lack)

pub returns-clause-ok : goal.returns-clause-ok
returns-clause-ok c v agrees =
    let g = c.args.working.now.geometry in
    let path = c.args.path.now in
    let f = c.args.found.now in
    let found = c.requires.found v agrees in
    let u = found-under g v path f agrees.sound found in
    let other = file-other v f.directory f.number found.file.bytes u.dir found.file.is in
    plans g v _ path (record { directory = c.in_ok-directory.directory; gone = c.in_ok-gone.gone }) f.directory f.number c.in_ok-directory.ensures.number c.in_ok-gone.ensures.number.0 agrees.sound u (last-makes v path f found other c.requires.last) other
    (c.in_ok-directory.ensures.opened v agrees) (c.in_ok-gone.ensures.opened v agrees)
