use Rattle.std.proofs.Common.{ℕ, List, subst, ◌∙◌}
use Rattle.std.specs.List.{Contains}
use Rattle.std.proofs.lemmas.Result.{err_from_is_err_and}
use Rattle.mq_exec.proofs.WalksNewNames.{new-name, new-past}
use Rattle.mq_exec.proofs.PlansRenaming.{full-there, holds-rename, moving, need-there, plans-rename, rename-few, rename-full, rename-past_from, rename-past_to, rename-searched, rename-taken, source-under}
use Rattle.mq_exec.proofs.PlansTargets.{past-above}
use Rattle.mq_inodes.specs.MissingPages.{OfEach}
use Rattle.mq_inodes.specs.Pages.{pages_of}
use Rattle.mq_inodes.specs.Picks.{IsSearched}
use Rattle.mq_inodes.specs.Walks.{LeadsPast, LooksIn}
use Rattle.mq_inodes.proofs.MissingPages.{lacks-each, lacks-weaker}
use Rattle.mq_tree.specs.Looks.{LooksAt}
use Rattle.mq_tree.specs.Volume.{way}
use Rattle.mq_tree.specs.declared.request.Request.TheVariants.{Rename}
use Rattle.mq_exec.proofs.rename.plan_rename.Goals as goal

pub returns-in_err-found-clause-lack : goal.returns-in_err-found-clause-lack
returns-in_err-found-clause-lack c =
    let g = c.args.working.now.geometry in
    let p = err_from_is_err_and c.from_residual.result c.from_residual.ensures.1 in
    rw (p.1, p.2) (lacks-each c.args.working.now (λ v b. LeadsPast g v (way c.args.from.now) b) (λ v b. LooksAt g c.args.queue v (Rename c.args.from.now c.args.to.now) b) c.in_err-found.field-0.0
    (λ v b agrees h. rename-past_from g c.args.queue v c.args.from.now c.args.to.now b h) c.in_err-found.ensures.lack)

pub returns-in_err-target-clause-lack : goal.returns-in_err-target-clause-lack
returns-in_err-target-clause-lack c =
    let g = c.args.working.now.geometry in
    let p = err_from_is_err_and c.from_residual-in_err-target.result c.from_residual-in_err-target.ensures.1 in
    rw (p.1, p.2) (lacks-each c.args.working.now (λ v b. LeadsPast g v (way c.args.to.now) b) (λ v b. LooksAt g c.args.queue v (Rename c.args.from.now c.args.to.now) b) c.in_err-target.field-0.0
    (λ v b agrees h. rename-past_to g c.args.queue v c.args.from.now c.args.to.now b h) c.in_err-target.ensures.lack)

pub open_directory-requires-clause-dir : goal.open_directory-requires-clause-dir
open_directory-requires-clause-dir c v agrees = (source-under c.args.working.now.geometry v c.args.from.now c.args.to.now c.in-Ok.found agrees.sound (rw c.in-Ok.is at c.in_ok-found.ensures.ok v agrees)).dir

pub returns-in_err-source-clause-lack : goal.returns-in_err-source-clause-lack
returns-in_err-source-clause-lack c =
    let g = c.args.working.now.geometry in
    let p = err_from_is_err_and c.from_residual-in_err-source.result c.from_residual-in_err-source.ensures.1 in
    rw (p.1, p.2) (lacks-each c.args.working.now (λ v b. LooksIn g v c.in-Ok.found.0 b) (λ v b. LooksAt g c.args.queue v (Rename c.args.from.now c.args.to.now) b) c.in_err-source.field-0.0
    (λ v b agrees h. rename-past_from g c.args.queue v c.args.from.now c.args.to.now b (past-above g v (way c.args.from.now) c.in-Ok.found.0 c.in-Ok.found.1 b (source-under g v c.args.from.now c.args.to.now c.in-Ok.found agrees.sound (rw c.in-Ok.is at c.in_ok-found.ensures.ok v agrees)) h))
    c.in_err-source.ensures.lack)

pub open_directory-requires-2-clause-dir : goal.open_directory-requires-2-clause-dir
open_directory-requires-2-clause-dir c v agrees = (new-name c.args.working.now.geometry v (way c.args.to.now) c.in_ok-target.field-0 c.in-In-default-None.directory c.in-In-default-None.found agrees.sound c.in-In-default-None.is c.in-In-default-None.found-is (c.in_ok-target.ensures.ok v agrees)).dir

pub returns-in_err-directory-clause-lack : goal.returns-in_err-directory-clause-lack
returns-in_err-directory-clause-lack c =
    let g = c.args.working.now.geometry in
    let w = way c.args.to.now in
    let p = err_from_is_err_and c.from_residual-in_err-directory.result c.from_residual-in_err-directory.ensures.1 in
    rw (p.1, p.2) (lacks-each c.args.working.now (λ v b. LooksIn g v c.in-In-default-None.directory b) (λ v b. LooksAt g c.args.queue v (Rename c.args.from.now c.args.to.now) b) c.in_err-directory.field-0.0
    (λ v b agrees h. rename-past_to g c.args.queue v c.args.from.now c.args.to.now b (new-past g v w c.in-In-default-None.directory b (new-name g v w c.in_ok-target.field-0 c.in-In-default-None.directory c.in-In-default-None.found agrees.sound c.in-In-default-None.is c.in-In-default-None.found-is (c.in_ok-target.ensures.ok v agrees)) h))
    c.in_err-directory.ensures.lack)

pub returns-then-is_full-clause-ok : goal.returns-then-is_full-clause-ok
returns-then-is_full-clause-ok c v agrees =
    let g = c.args.working.now.geometry in
    let pages = pages_of c.args.working.now in
    let s = c.in_ok-source.source in
    let o = c.in_ok-directory.directory in
    let full = full-there pages s o c.in-Ok.found.0 c.in-In-default-None.directory c.is_full.result c.deref.result.now c.in_ok-source.ensures.number c.in_ok-directory.ensures.number c.deref.ensures.value c.is_full.ensures ∙ c.if-is_full.true in
    let m = moving g pages v c.args.from.now c.args.to.now c.in-Ok.found c.in-In-default-None.directory s o agrees.sound (rw c.in-Ok.is at c.in_ok-found.ensures.ok v agrees) (new-name g v (way c.args.to.now) c.in_ok-target.field-0 c.in-In-default-None.directory c.in-In-default-None.found agrees.sound c.in-In-default-None.is c.in-In-default-None.found-is (c.in_ok-target.ensures.ok v agrees))
    c.requires.names c.requires.new_names c.in_ok-source.ensures.number c.in_ok-directory.ensures.number (c.in_ok-source.ensures.opened v agrees) (c.in_ok-directory.ensures.opened v agrees) (c.in_ok-directory.ensures.slots v agrees) in
    rename-full g c.args.queue pages v c.args.from.now c.args.to.now c.in-Ok.found.1 s o m full

pub returns-in_err-picks-clause-lack : goal.returns-in_err-picks-clause-lack
returns-in_err-picks-clause-lack c =
    let g = c.args.working.now.geometry in
    let pages = pages_of c.args.working.now in
    let s = c.in_ok-source.source in
    let o = c.in_ok-directory.directory in
    let full = full-there pages s o c.in-Ok.found.0 c.in-In-default-None.directory c.is_full.result c.deref.result.now c.in_ok-source.ensures.number c.in_ok-directory.ensures.number c.deref.ensures.value c.is_full.ensures ∙ c.if-is_full.false in
    let need = need-there pages s o c.in-Ok.found.0 c.in-In-default-None.directory c.move_need-need.result c.deref-2.result.now c.in_ok-source.ensures.number c.in_ok-directory.ensures.number c.deref-2.ensures.value c.move_need-need.ensures in
    let p = err_from_is_err_and c.from_residual-in_err-picks.result c.from_residual-in_err-picks.ensures.1 in
    rw (p.1, p.2) (lacks-each c.args.working.now (λ v b. IsSearched g c.args.queue v c.move_need-need.result b) (λ v b. LooksAt g c.args.queue v (Rename c.args.from.now c.args.to.now) b) c.in_err-picks.field-0.0
    (λ v b agrees h.
    let m = moving g pages v c.args.from.now c.args.to.now c.in-Ok.found c.in-In-default-None.directory s o agrees.sound (rw c.in-Ok.is at c.in_ok-found.ensures.ok v agrees) (new-name g v (way c.args.to.now) c.in_ok-target.field-0 c.in-In-default-None.directory c.in-In-default-None.found agrees.sound c.in-In-default-None.is c.in-In-default-None.found-is (c.in_ok-target.ensures.ok v agrees))
    c.requires.names c.requires.new_names c.in_ok-source.ensures.number c.in_ok-directory.ensures.number (c.in_ok-source.ensures.opened v agrees) (c.in_ok-directory.ensures.opened v agrees) (c.in_ok-directory.ensures.slots v agrees) in
    rename-searched g c.args.queue pages v c.args.from.now c.args.to.now c.in-Ok.found.1 c.move_need-need.result b s o m full need h) c.in_err-picks.ensures.lack)

pub returns-in_default-clause-ok : goal.returns-in_default-clause-ok
returns-in_default-clause-ok c v agrees =
    let g = c.args.working.now.geometry in
    let pages = pages_of c.args.working.now in
    let s = c.in_ok-source.source in
    let o = c.in_ok-directory.directory in
    let full = full-there pages s o c.in-Ok.found.0 c.in-In-default-None.directory c.is_full.result c.deref.result.now c.in_ok-source.ensures.number c.in_ok-directory.ensures.number c.deref.ensures.value c.is_full.ensures ∙ c.if-is_full.false in
    let need = need-there pages s o c.in-Ok.found.0 c.in-In-default-None.directory c.move_need-need.result c.deref-2.result.now c.in_ok-source.ensures.number c.in_ok-directory.ensures.number c.deref-2.ensures.value c.move_need-need.ensures in
    let m = moving g pages v c.args.from.now c.args.to.now c.in-Ok.found c.in-In-default-None.directory s o agrees.sound (rw c.in-Ok.is at c.in_ok-found.ensures.ok v agrees) (new-name g v (way c.args.to.now) c.in_ok-target.field-0 c.in-In-default-None.directory c.in-In-default-None.found agrees.sound c.in-In-default-None.is c.in-In-default-None.found-is (c.in_ok-target.ensures.ok v agrees))
    c.requires.names c.requires.new_names c.in_ok-source.ensures.number c.in_ok-directory.ensures.number (c.in_ok-source.ensures.opened v agrees) (c.in_ok-directory.ensures.opened v agrees) (c.in_ok-directory.ensures.slots v agrees) in
    rename-few g c.args.queue pages v c.args.from.now c.args.to.now c.in-Ok.found.1 c.move_need-need.result s o m full need (rw c.in_default.is at c.in_ok-picks.ensures.ok v agrees)

pub returns-in_err-look_for_all-clause-lack : goal.returns-in_err-look_for_all-clause-lack
returns-in_err-look_for_all-clause-lack c =
    let g = c.args.working.now.geometry in
    let pages = pages_of c.args.working.now in
    let s = c.in_ok-source.source in
    let o = c.in_ok-directory.directory in
    let full = full-there pages s o c.in-Ok.found.0 c.in-In-default-None.directory c.is_full.result c.deref.result.now c.in_ok-source.ensures.number c.in_ok-directory.ensures.number c.deref.ensures.value c.is_full.ensures ∙ c.if-is_full.false in
    let need = need-there pages s o c.in-Ok.found.0 c.in-In-default-None.directory c.move_need-need.result c.deref-2.result.now c.in_ok-source.ensures.number c.in_ok-directory.ensures.number c.deref-2.ensures.value c.move_need-need.ensures in
    let p = err_from_is_err_and c.from_residual-in_err-look_for_all.result c.from_residual-in_err-look_for_all.ensures.1 in
    rw (p.1, p.2) (lacks-weaker pages (Contains c.deref-3.result.now) (λ b. OfEach c.args.working.now (λ v. LooksAt g c.args.queue v (Rename c.args.from.now c.args.to.now) b)) c.in_err-look_for_all.field-0.0
    (λ b h v agrees.
    let m = moving g pages v c.args.from.now c.args.to.now c.in-Ok.found c.in-In-default-None.directory s o agrees.sound (rw c.in-Ok.is at c.in_ok-found.ensures.ok v agrees) (new-name g v (way c.args.to.now) c.in_ok-target.field-0 c.in-In-default-None.directory c.in-In-default-None.found agrees.sound c.in-In-default-None.is c.in-In-default-None.found-is (c.in_ok-target.ensures.ok v agrees))
    c.requires.names c.requires.new_names c.in_ok-source.ensures.number c.in_ok-directory.ensures.number (c.in_ok-source.ensures.opened v agrees) (c.in_ok-directory.ensures.opened v agrees) (c.in_ok-directory.ensures.slots v agrees) in
    rename-taken g c.args.queue pages v c.args.from.now c.args.to.now c.in-Ok.found.1 c.move_need-need.result b s o c.in-Some.picks.items c.requires.queue m full need (rw c.in-Some.is at c.in_ok-picks.ensures.ok v agrees) (subst (λ (bs : List ℕ). Contains bs b) c.deref-3.ensures.value h)) c.in_err-look_for_all.ensures.lack)

pub returns-clause-ok : goal.returns-clause-ok
returns-clause-ok c v agrees =
    let g = c.args.working.now.geometry in
    let pages = pages_of c.args.working.now in
    let s = c.in_ok-source.source in
    let o = c.in_ok-directory.directory in
    let full = full-there pages s o c.in-Ok.found.0 c.in-In-default-None.directory c.is_full.result c.deref.result.now c.in_ok-source.ensures.number c.in_ok-directory.ensures.number c.deref.ensures.value c.is_full.ensures ∙ c.if-is_full.false in
    let need = need-there pages s o c.in-Ok.found.0 c.in-In-default-None.directory c.move_need-need.result c.deref-2.result.now c.in_ok-source.ensures.number c.in_ok-directory.ensures.number c.deref-2.ensures.value c.move_need-need.ensures in
    let m = moving g pages v c.args.from.now c.args.to.now c.in-Ok.found c.in-In-default-None.directory s o agrees.sound (rw c.in-Ok.is at c.in_ok-found.ensures.ok v agrees) (new-name g v (way c.args.to.now) c.in_ok-target.field-0 c.in-In-default-None.directory c.in-In-default-None.found agrees.sound c.in-In-default-None.is c.in-In-default-None.found-is (c.in_ok-target.ensures.ok v agrees))
    c.requires.names c.requires.new_names c.in_ok-source.ensures.number c.in_ok-directory.ensures.number (c.in_ok-source.ensures.opened v agrees) (c.in_ok-directory.ensures.opened v agrees) (c.in_ok-directory.ensures.slots v agrees) in
    plans-rename g c.args.queue pages v c.args.from.now c.args.to.now c.move_need-need.result (record { source = s; directory = o; inode = c.in-Ok.found.1; picks = c.in-Some.picks }) c.requires.queue m full need (rw c.in-Some.is at c.in_ok-picks.ensures.ok v agrees)

pub returns-clause-pages : goal.returns-clause-pages
returns-clause-pages c =
    let g = c.args.working.now.geometry in
    let pages = pages_of c.args.working.now in
    let p = c.requires.possible in
    holds-rename g c.args.queue pages p.0 c.move_need-need.result c.in-In-default-None.directory c.deref-3.result.now (record { source = c.in_ok-source.source; directory = c.in_ok-directory.directory; inode = c.in-Ok.found.1; picks = c.in-Some.picks }) p.1 c.requires.queue c.in_ok-source.ensures.dirs c.in_ok-source.ensures.few c.in_ok-directory.ensures.dirs c.in_ok-directory.ensures.few
    c.in_ok-directory.ensures.number c.in_ok-directory.ensures.table c.in_ok-directory.ensures.pointers (rw c.in-Some.is at c.in_ok-picks.ensures.ok p.0 p.1) (rw c.in-Some.is at c.in_ok-picks.ensures.marks) c.deref-3.ensures.value c.in_ok-look_for_all.ensures.ok
