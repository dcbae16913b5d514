use Rattle.std.proofs.Common.{ℕ, refl}
use Rattle.std.proofs.lemmas.Result.{err_from_is_err_and}
use Rattle.mq_exec.proofs.PlansComing.{comes-carried, comes-refused}
use Rattle.mq_exec.proofs.PlansRemoving.{unlink-refused}
use Rattle.mq_exec.proofs.PlansShed.{plans-opened, shed-does}
use Rattle.mq_exec.proofs.PlansTargets.{file-found, file-refused, found-under, past-above}
use Rattle.mq_exec.proofs.ReadsAnswering.{past-looks}
use Rattle.mq_inodes.specs.Fits.{Agrees}
use Rattle.mq_inodes.specs.Pages.{pages_of}
use Rattle.mq_inodes.specs.Walks.{LeadsPast, LooksIn}
use Rattle.mq_inodes.proofs.MissingPages.{lacks-weaker}
use Rattle.mq_tree.specs.Looks.{LooksAt}
use Rattle.mq_tree.specs.Requests.{unlink as unlink_of, target as target_of}
use Rattle.mq_tree.specs.Volume.{Volume, way}
use Rattle.mq_tree.specs.declared.request.Request.TheVariants.{Unlink}
use Rattle.mq_exec.proofs.remove.unlink.Goals as goal

pub returns-in_err-found-clause-lack : goal.returns-in_err-found-clause-lack
returns-in_err-found-clause-lack c =
    let g = c.args.working.now.geometry in
    let pages = pages_of c.args.working.now in
    let p = err_from_is_err_and c.from_residual.result c.from_residual.ensures.1 in
    rw (p.1, p.2) (lacks-weaker pages (λ b. (v : Volume) → Agrees g pages v → LeadsPast g v (way c.args.path.now) b) (λ b. (v : Volume) → Agrees g pages v → (q : ℕ) → LooksAt g q v (Unlink c.args.path.now) b) c.in_err-found.field-0.0
    (λ b h v agrees q. past-looks g q v c.args.path.now (Unlink c.args.path.now) b refl (h v agrees)) c.in_err-found.ensures.lack)

pub returns-in-Err-clause-ok : goal.returns-in-Err-clause-ok
returns-in-Err-clause-ok c v agrees =
    let g = c.args.working.now.geometry in
    let t = target_of v (way c.args.path.now) in
    comes-refused g v (unlink_of v t) c.in-Err.fault c.args.working.now agrees (unlink-refused g v t c.in-Err.fault (file-refused v c.args.path.now c.in_ok-found.field-0 c.in-Err.fault c.in-Err.is (c.in_ok-found.ensures.ok v agrees)))

pub open_directory-requires-clause-dir : goal.open_directory-requires-clause-dir
open_directory-requires-clause-dir c v agrees =
    (found-under c.args.working.now.geometry v c.args.path.now c.in-Ok.found agrees.sound (file-found v c.args.path.now c.in_ok-found.field-0 c.in-Ok.found c.in-Ok.is (c.in_ok-found.ensures.ok v agrees))).dir

pub returns-in_err-directory-clause-lack : goal.returns-in_err-directory-clause-lack
returns-in_err-directory-clause-lack c =
    let g = c.args.working.now.geometry in
    let pages = pages_of c.args.working.now in
    let f = c.in-Ok.found in
    let p = err_from_is_err_and c.from_residual-in_err-directory.result c.from_residual-in_err-directory.ensures.1 in
    rw (p.1, p.2) (lacks-weaker pages (λ b. (v : Volume) → Agrees g pages v → LooksIn g v f.directory b) (λ b. (v : Volume) → Agrees g pages v → (q : ℕ) → LooksAt g q v (Unlink c.args.path.now) b) c.in_err-directory.field-0.0
    (λ b h v agrees q. past-looks g q v c.args.path.now (Unlink c.args.path.now) b refl (past-above g v (way c.args.path.now) f.directory f.number b
    (found-under g v c.args.path.now f agrees.sound (file-found v c.args.path.now c.in_ok-found.field-0 f c.in-Ok.is (c.in_ok-found.ensures.ok v agrees))) (h v agrees))) c.in_err-directory.ensures.lack)

pub shed-requires-clause-possible : goal.shed-requires-clause-possible
shed-requires-clause-possible c =
    let p = c.requires.possible in
    let found = file-found p.0 c.args.path.now c.in_ok-found.field-0 c.in-Ok.found c.in-Ok.is (c.in_ok-found.ensures.ok p.0 p.1) in
    (p.0, p.1, plans-opened c.args.working.now.geometry p.0 c.args.path.now c.deref.result.now c.in-Ok.found c.in_ok-directory.directory p.1.sound found c.deref.ensures.value c.in_ok-directory.ensures.number (c.in_ok-directory.ensures.opened p.0 p.1) c.if-found-gt1.true)

pub returns-then-found-gt1-clause-ok : goal.returns-then-found-gt1-clause-ok
returns-then-found-gt1-clause-ok c v agrees =
    let g = c.args.working.now.geometry in
    let path = c.args.path.now in
    let f = c.in-Ok.found in
    let found = file-found v path c.in_ok-found.field-0 f c.in-Ok.is (c.in_ok-found.ensures.ok v agrees) in
    let plan = plans-opened g v path c.deref.result.now f c.in_ok-directory.directory agrees.sound found c.deref.ensures.value c.in_ok-directory.ensures.number (c.in_ok-directory.ensures.opened v agrees) c.if-found-gt1.true in
    comes-carried g v (unlink_of v (target_of v (way path))) _ c.args.working.now c.shed.new.working (shed-does g v path f agrees.sound found c.if-found-gt1.true) (c.in_ok-shed.ensures.shed v agrees plan)

pub plan_unlink-requires-clause-found : goal.plan_unlink-requires-clause-found
plan_unlink-requires-clause-found c v agrees = file-found v c.args.path.now c.in_ok-found.field-0 c.in-Ok.found c.in-Ok.is (c.in_ok-found.ensures.ok v agrees)

pub carry_remove-requires-clause-possible : goal.carry_remove-requires-clause-possible
carry_remove-requires-clause-possible c =
    let p = c.requires.possible in
    (p.0, unlink_of p.0 (target_of p.0 (way c.args.path.now)), p.1, c.in_ok-removal.ensures.ok p.0 p.1)

pub returns-clause-ok : goal.returns-clause-ok
returns-clause-ok c v agrees =
    let g = c.args.working.now.geometry in
    let verdict = unlink_of v (target_of v (way c.args.path.now)) in
    let plan = c.in_ok-removal.ensures.ok v agrees in
    comes-carried g v verdict _ c.args.working.now c.carry_remove.new.working plan.carried (c.in_ok-carry_remove.ensures.removed v verdict agrees plan)
