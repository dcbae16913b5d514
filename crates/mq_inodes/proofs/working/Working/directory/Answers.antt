use Rattle.std.proofs.Common.{sym, ap, ◌∙◌, ◌≡◌, ℕ, List, subst, true}
use Rattle.std.specs.Prelude.{◌≢◌, Some, None}
use Rattle.std.specs.List.{All, Contains}
use Rattle.std.proofs.lemmas.Result.{err_from_is_err_and}
use Rattle.mq_inodes.specs.Fits.{Agrees}
use Rattle.mq_inodes.specs.Pages.{IsHeld, pages_of}
use Rattle.mq_inodes.proofs.Dirs.{blocks-has, blocks-there, dir-form, dir-slots, kind-dir}
use Rattle.mq_inodes.proofs.MissingPages.{lacks-weaker}
use Rattle.mq_tree.specs.Volume.{Dir, Volume, has_block, node}
use Rattle.mq_inodes.proofs.working.Working.directory.Goals as goal

pub look_for-requires : goal.look_for-requires
look_for-requires c =
    let p = c.requires.possible in
    subst (λ (xs : List ℕ). All (λ b. pages_of c.args.self.now b ≢ Some None) xs) (sym c.deref.ensures.value)
    (blocks-there c.args.self.now.geometry (pages_of c.args.self.now) p.0 c.args.d c.in_ok-blocks.blocks.items p.1 (c.in_ok-blocks.ensures.ok p.0 p.1))

pub returns-in_err-look_for-clause-lack : goal.returns-in_err-look_for-clause-lack
returns-in_err-look_for-clause-lack c =
    let p = err_from_is_err_and c.from_residual-in_err-look_for.result c.from_residual-in_err-look_for.ensures.1 in
    rw (p.1, p.2) (lacks-weaker (pages_of c.args.self.now) (Contains c.deref.result.now) (λ b. (v : Volume) → Agrees c.args.self.now.geometry (pages_of c.args.self.now) v → has_block (node v c.args.d) b ≡ true) c.in_err-look_for.field-0.0
    (λ b among v agrees. blocks-has (node v c.args.d) c.in_ok-blocks.blocks.items b (c.in_ok-blocks.ensures.ok v agrees) (subst (λ (xs : List ℕ). Contains xs b) c.deref.ensures.value among)) c.in_err-look_for.ensures.lack)

pub returns-clause-held : goal.returns-clause-held
returns-clause-held c =
    let p = c.requires.possible in
    let d = kind-dir (node p.0 c.args.d) c.args.inode.now (c.requires.inode p.0 p.1) c.requires.kind in
    dir-form c.args.self.now.geometry (pages_of c.args.self.now) p.0 c.args.d d.0 c.in_ok-blocks.blocks.items p.1 d.1 (c.in_ok-blocks.ensures.ok p.0 p.1) (subst (λ (xs : List ℕ). All (IsHeld (pages_of c.args.self.now)) xs) c.deref.ensures.value c.in_ok-look_for.ensures.ok)

pub returns-clause-slots : goal.returns-clause-slots
returns-clause-slots c v agrees =
    let d = kind-dir (node v c.args.d) c.args.inode.now (c.requires.inode v agrees) c.requires.kind in
    d.1 ∙ ap (λ s. Dir s) (dir-slots c.args.self.now.geometry (pages_of c.args.self.now) v c.args.d d.0 c.in_ok-blocks.blocks.items agrees d.1 (c.in_ok-blocks.ensures.ok v agrees) (subst (λ (xs : List ℕ). All (IsHeld (pages_of c.args.self.now)) xs) c.deref.ensures.value c.in_ok-look_for.ensures.ok))
