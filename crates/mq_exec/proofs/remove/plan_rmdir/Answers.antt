use Rattle.std.proofs.Common.{◌≡◌, ℕ, refl, sym, ap, subst, ◌∙◌, List}
use Rattle.std.proofs.lemmas.Result.{err_from_is_err_and}
use Rattle.mq_exec.specs.Removes.{LooksFreed}
use Rattle.mq_exec.proofs.ReadsAnswering.{past-looks}
use Rattle.mq_exec.proofs.PlansRemoving.{bare-other, plans, rmdir-file, rmdir-makes}
use Rattle.mq_exec.proofs.RemovesLooks.{dir-freed}
use Rattle.mq_exec.proofs.PlansTargets.{file-says, past-above, past-dir, past-inode, under, under-low}
use Rattle.mq_inodes.specs.Dirs.{slots_at}
use Rattle.mq_inodes.specs.Fits.{Agrees}
use Rattle.mq_inodes.specs.Pages.{Pages, pages_of}
use Rattle.mq_inodes.specs.Walks.{LeadsPast, LooksIn}
use Rattle.mq_inodes.proofs.Dirs.{kind-dir}
use Rattle.mq_inodes.proofs.MissingPages.{lacks-weaker}
use Rattle.mq_layout.specs.Places.{inode_block}
use Rattle.mq_tree.specs.Looks.{LooksAt}
use Rattle.mq_tree.specs.Requests.{count_names}
use Rattle.mq_tree.specs.Volume.{Volume, node, way}
use Rattle.mq_tree.specs.declared.request.Request.TheVariants.{Rmdir}
use Rattle.mq_exec.proofs.remove.plan_rmdir.Goals as goal

-- no name was counted
bare : (pages : Pages) (counted blocks : List ℕ) (count : ℕ) → counted ≡ blocks → count ≡ count_names (slots_at pages counted) → count ≡ 0 → count_names (slots_at pages blocks) ≡ 0
bare pages counted blocks count same e none = ap (λ (xs : List ℕ). count_names (slots_at pages xs)) (sym same) ∙ sym e ∙ none

pub returns-in_err-target-clause-lack : goal.returns-in_err-target-clause-lack
returns-in_err-target-clause-lack c =
    let g = c.args.working.now.geometry in
    let pages = pages_of c.args.working.now in
    let p = err_from_is_err_and c.from_residual.result c.from_residual.ensures.1 in
    rw (p.1, p.2) (lacks-weaker pages (λ b. (v : Volume) → Agrees g pages v → LeadsPast g v (way c.args.path.now) b) (λ b. (v : Volume) → Agrees g pages v → (q : ℕ) → LooksAt g q v (Rmdir c.args.path.now) b) c.in_err-target.field-0.0
    (λ b h v agrees q. past-looks g q v c.args.path.now (Rmdir c.args.path.now) b refl (h v agrees)) c.in_err-target.ensures.lack)

pub inode-requires-clause-low : goal.inode-requires-clause-low
inode-requires-clause-low c =
    let g = c.args.working.now.geometry in
    let p = c.requires.possible in
    let t = c.in-In-default-Some in
    under-low g p.0 (way c.args.path.now) t.directory t.i p.1.sound (under g p.0 (way c.args.path.now) c.in_ok-target.field-0 _ _ _ p.1.sound t.is t.found-is (c.in_ok-target.ensures.ok p.0 p.1))

pub returns-in_err-inode-clause-lack : goal.returns-in_err-inode-clause-lack
returns-in_err-inode-clause-lack c =
    let g = c.args.working.now.geometry in
    let pages = pages_of c.args.working.now in
    let w = way c.args.path.now in
    let t = c.in-In-default-Some in
    let p = err_from_is_err_and c.from_residual-in_err-inode.result c.from_residual-in_err-inode.ensures.1 in
    rw (p.1, p.2) (lacks-weaker pages (λ b. b ≡ inode_block g t.i) (λ b. (v : Volume) → Agrees g pages v → (q : ℕ) → LooksAt g q v (Rmdir c.args.path.now) b) c.in_err-inode.field-0.0
    (λ b at v agrees q. past-looks g q v c.args.path.now (Rmdir c.args.path.now) b refl
    (past-inode g v w t.directory t.i b (under g v w c.in_ok-target.field-0 _ _ _ agrees.sound t.is t.found-is (c.in_ok-target.ensures.ok v agrees)) at)) c.in_err-inode.ensures.lack)

pub returns-then-branch-ne-DIRECTORY-clause-ok : goal.returns-then-branch-ne-DIRECTORY-clause-ok
returns-then-branch-ne-DIRECTORY-clause-ok c v agrees =
    let g = c.args.working.now.geometry in
    let t = c.in-In-default-Some in
    let u = under g v (way c.args.path.now) c.in_ok-target.field-0 _ _ _ agrees.sound t.is t.found-is (c.in_ok-target.ensures.ok v agrees) in
    let f = file-says v t.i c.in_ok-inode.field-0 u.used (c.in_ok-inode.ensures.ok v agrees) c.if-branch-ne-DIRECTORY.true in
    rmdir-file g v c.args.path.now t.directory t.i f.bytes u f.is

pub returns-in_err-gone-clause-lack : goal.returns-in_err-gone-clause-lack
returns-in_err-gone-clause-lack c =
    let g = c.args.working.now.geometry in
    let pages = pages_of c.args.working.now in
    let w = way c.args.path.now in
    let t = c.in-In-default-Some in
    let p = err_from_is_err_and c.from_residual-in_err-gone.result c.from_residual-in_err-gone.ensures.1 in
    rw (p.1, p.2) (lacks-weaker pages (λ b. (v : Volume) → Agrees g pages v → LooksIn g v t.i b) (λ b. (v : Volume) → Agrees g pages v → (q : ℕ) → LooksAt g q v (Rmdir c.args.path.now) b) c.in_err-gone.field-0.0
    (λ b h v agrees q. past-looks g q v c.args.path.now (Rmdir c.args.path.now) b refl
    (past-dir g v w t.directory t.i b (under g v w c.in_ok-target.field-0 _ _ _ agrees.sound t.is t.found-is (c.in_ok-target.ensures.ok v agrees))
    (kind-dir (node v t.i) c.in_ok-inode.field-0 (c.in_ok-inode.ensures.ok v agrees) c.if-branch-ne-DIRECTORY.false) (h v agrees))) c.in_err-gone.ensures.lack)

pub open_directory-requires-2-clause-dir : goal.open_directory-requires-2-clause-dir
open_directory-requires-2-clause-dir c v agrees =
    let t = c.in-In-default-Some in
    (under c.args.working.now.geometry v (way c.args.path.now) c.in_ok-target.field-0 _ _ _ agrees.sound t.is t.found-is (c.in_ok-target.ensures.ok v agrees)).dir

pub returns-in_err-directory-clause-lack : goal.returns-in_err-directory-clause-lack
returns-in_err-directory-clause-lack c =
    let g = c.args.working.now.geometry in
    let pages = pages_of c.args.working.now in
    let w = way c.args.path.now in
    let t = c.in-In-default-Some in
    let p = err_from_is_err_and c.from_residual-in_err-directory.result c.from_residual-in_err-directory.ensures.1 in
    rw (p.1, p.2) (lacks-weaker pages (λ b. (v : Volume) → Agrees g pages v → LooksIn g v t.directory b) (λ b. (v : Volume) → Agrees g pages v → (q : ℕ) → LooksAt g q v (Rmdir c.args.path.now) b) c.in_err-directory.field-0.0
    (λ b h v agrees q. past-looks g q v c.args.path.now (Rmdir c.args.path.now) b refl
    (past-above g v w t.directory t.i b (under g v w c.in_ok-target.field-0 _ _ _ agrees.sound t.is t.found-is (c.in_ok-target.ensures.ok v agrees)) (h v agrees))) c.in_err-directory.ensures.lack)

pub returns-in_err-look_to_free-clause-lack : goal.returns-in_err-look_to_free-clause-lack
returns-in_err-look_to_free-clause-lack c =
    let g = c.args.working.now.geometry in
    let pages = pages_of c.args.working.now in
    let path = c.args.path.now in
    let t = c.in-In-default-Some in
    let o = c.in_ok-gone.gone in
    let none = bare pages c.deref.result.now o.blocks.items c.count.result c.deref.ensures.value c.count.ensures c.if-count-ne0.false in
    let p = err_from_is_err_and c.from_residual-in_err-look_to_free.result c.from_residual-in_err-look_to_free.ensures.1 in
    rw (p.1, p.2) (lacks-weaker pages (λ b. (v : Volume) → Agrees g pages v → LooksFreed g v o.number b) (λ b. (v : Volume) → Agrees g pages v → (q : ℕ) → LooksAt g q v (Rmdir path) b) c.in_err-look_to_free.field-0.0
    (λ b h v agrees q.
    let u = under g v (way path) c.in_ok-target.field-0 _ _ _ agrees.sound t.is t.found-is (c.in_ok-target.ensures.ok v agrees) in
    let is = c.in_ok-gone.ensures.slots v agrees in
    dir-freed g q v path t.directory t.i b agrees.sound c.requires.names u (slots_at pages o.blocks.items, is) (bare-other v path t.directory t.i (slots_at pages o.blocks.items) u is none)
    (rmdir-makes v path t.directory t.i (slots_at pages o.blocks.items) u is none) (subst (λ (x : ℕ). LooksFreed g v x b) c.in_ok-gone.ensures.number (h v agrees))) c.in_err-look_to_free.ensures.lack)

pub returns-clause-ok : goal.returns-clause-ok
returns-clause-ok c v agrees =
    let g = c.args.working.now.geometry in
    let pages = pages_of c.args.working.now in
    let path = c.args.path.now in
    let t = c.in-In-default-Some in
    let o = c.in_ok-gone.gone in
    let none = bare pages c.deref.result.now o.blocks.items c.count.result c.deref.ensures.value c.count.ensures c.if-count-ne0.false in
    let u = under g v (way path) c.in_ok-target.field-0 _ _ _ agrees.sound t.is t.found-is (c.in_ok-target.ensures.ok v agrees) in
    let is = c.in_ok-gone.ensures.slots v agrees in
    plans g v _ path (record { directory = c.in_ok-directory.directory; gone = o }) t.directory t.i c.in_ok-directory.ensures.number c.in_ok-gone.ensures.number agrees.sound u (rmdir-makes v path t.directory t.i (slots_at pages o.blocks.items) u is none)
    (bare-other v path t.directory t.i (slots_at pages o.blocks.items) u is none) (c.in_ok-directory.ensures.opened v agrees) (c.in_ok-gone.ensures.opened v agrees)
