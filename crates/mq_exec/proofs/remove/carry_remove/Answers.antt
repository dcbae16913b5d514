use Rattle.std.proofs.Common.{◌≡◌, ◌-◌, ℕ, List, sym, ap, subst, ◌∙◌, length}
use Rattle.std.specs.Prelude.{slice_get}
use Rattle.std.proofs.lemmas.Result.{on_ok_weaker}
use Rattle.mq_exec.proofs.OpenedLinkable.{last-name}
use Rattle.mq_exec.proofs.PlansRemoveCarried.{gone-carried, may-free, name-there, removed}
use Rattle.mq_inodes.specs.Dirs.{AreDirsAt}
use Rattle.mq_inodes.specs.Opened.{MayUnlink}
use Rattle.mq_inodes.specs.Pages.{pages_of}
use Rattle.mq_inodes.proofs.EditsBecoming.{carries-sound, over-then}
use Rattle.mq_inodes.specs.Walks.{last_of}
use Rattle.mq_tree.specs.Volume.{Path, way}
use Rattle.mq_exec.proofs.remove.carry_remove.Goals as goal

pub unlink_name-requires-clause-possible : goal.unlink_name-requires-clause-possible
unlink_name-requires-clause-possible c =
    let g = c.args.working.now.geometry in
    let p = c.requires.possible in
    (p.0, c.args.removal.now.directory.number, carries-sound g (pages_of c.args.working.now) p.0 p.2, subst (λ (bs : List ℕ). MayUnlink g p.0 c.args.removal.now.directory.number bs) (sym c.deref-2.ensures.value) p.3.unlink)

pub unlink_name-requires-clause-held : goal.unlink_name-requires-clause-held
unlink_name-requires-clause-held c = subst (λ (bs : List ℕ). AreDirsAt (pages_of c.args.working.now) bs) (sym c.deref-2.ensures.value) c.requires.pages.dirs

pub unlink_name-requires-clause-found : goal.unlink_name-requires-clause-found
unlink_name-requires-clause-found c =
    let g = c.args.working.now.geometry in
    let p = c.requires.possible in
    let path : c.deref.result.now ≡ c.args.path.now = cc (c.path.view_is, c.deref.ensures.value) in
    let name : c.deref-3.result.now ≡ c.in-Some.name.now = cc (c.name.view_is, c.deref-3.ensures.value) in
    let last = last-name c.args.path.now c.in-Some.name.now (c.in-Some.ensures.value ∙ ap (λ (ns : Path). slice_get ns (length ns - 1)) path) in
    name-there g (pages_of c.args.working.now) p.0 c.args.removal.now.directory.number c.args.removal.now.gone.number c.deref-3.result.now (last_of (way c.args.path.now)) c.deref-2.result.now _ p.2 p.3.unlink p.3.found c.requires.pages.dirs (name ∙ last) c.deref-2.ensures.value

pub free_inode_of-requires-clause-possible : goal.free_inode_of-requires-clause-possible
free_inode_of-requires-clause-possible c =
    let g = c.args.working.now.geometry in
    let p = c.requires.possible in
    let e = c.in_ok-unlink_name.ensures in
    let path : c.deref.result.now ≡ c.args.path.now = cc (c.path.view_is, c.deref.ensures.value) in
    let name : c.deref-3.result.now ≡ c.in-Some.name.now = cc (c.name.view_is, c.deref-3.ensures.value) in
    let last = last-name c.args.path.now c.in-Some.name.now (c.in-Some.ensures.value ∙ ap (λ (ns : Path). slice_get ns (length ns - 1)) path) in
    gone-carried g c.unlink_name.new.self.geometry p.0 p.1 c.args.path.now c.args.removal.now c.deref-3.result.now c.deref-2.result.now c.args.working.now c.unlink_name.new.self e.over.view.geometry p.2 p.3 (name ∙ last) c.deref-2.ensures.value e.unlinked

pub free_inode_of-requires-clause-table : goal.free_inode_of-requires-clause-table
free_inode_of-requires-clause-table c =
    let e = c.in_ok-unlink_name.ensures in
    (may-free c.args.working.now.geometry c.unlink_name.new.self.geometry c.args.removal.now c.args.working.now c.unlink_name.new.self e.over.view.geometry c.requires.pages e.keeps e.over).table

pub free_inode_of-requires-clause-marks : goal.free_inode_of-requires-clause-marks
free_inode_of-requires-clause-marks c =
    let e = c.in_ok-unlink_name.ensures in
    (may-free c.args.working.now.geometry c.unlink_name.new.self.geometry c.args.removal.now c.args.working.now c.unlink_name.new.self e.over.view.geometry c.requires.pages e.keeps e.over).marks

pub free_inode_of-requires-clause-blocks : goal.free_inode_of-requires-clause-blocks
free_inode_of-requires-clause-blocks c =
    let e = c.in_ok-unlink_name.ensures in
    (may-free c.args.working.now.geometry c.unlink_name.new.self.geometry c.args.removal.now c.args.working.now c.unlink_name.new.self e.over.view.geometry c.requires.pages e.keeps e.over).releases

pub free_inode_of-requires-clause-pointers : goal.free_inode_of-requires-clause-pointers
free_inode_of-requires-clause-pointers c =
    let e = c.in_ok-unlink_name.ensures in
    (may-free c.args.working.now.geometry c.unlink_name.new.self.geometry c.args.removal.now c.args.working.now c.unlink_name.new.self e.over.view.geometry c.requires.pages e.keeps e.over).pointers

pub returns-clause-over : goal.returns-clause-over
returns-clause-over c =
    on_ok_weaker c.free_inode_of.result (over-then c.args.working.now c.unlink_name.new.self c.free_inode_of.new.self c.in_ok-unlink_name.ensures.over) c.free_inode_of.ensures.over

pub returns-clause-removed : goal.returns-clause-removed
returns-clause-removed c =
    let g = c.args.working.now.geometry in
    let e = c.in_ok-unlink_name.ensures in
    let path : c.deref.result.now ≡ c.args.path.now = cc (c.path.view_is, c.deref.ensures.value) in
    let name : c.deref-3.result.now ≡ c.in-Some.name.now = cc (c.name.view_is, c.deref-3.ensures.value) in
    let last = last-name c.args.path.now c.in-Some.name.now (c.in-Some.ensures.value ∙ ap (λ (ns : Path). slice_get ns (length ns - 1)) path) in
    on_ok_weaker c.free_inode_of.result (λ frees v verdict agrees plan. removed g c.unlink_name.new.self.geometry v verdict c.args.path.now c.args.removal.now c.deref-3.result.now c.deref-2.result.now c.args.working.now c.unlink_name.new.self c.free_inode_of.new.self e.over.view.geometry agrees plan (name ∙ last) c.deref-2.ensures.value e.over e.unlinked frees) c.free_inode_of.ensures.freed
