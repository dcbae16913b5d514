use Rattle.std.proofs.Common.{◌≡◌, ◌-◌, ℕ, List, sym, ap, subst, ◌∙◌, length}
use Rattle.std.specs.Prelude.{slice_get}
use Rattle.std.specs.List.{All}
use Rattle.std.proofs.lemmas.Result.{on_ok_weaker}
use Rattle.mq_blocks.specs.declared.geometry.Geometry.{Geometry}
use Rattle.mq_exec.proofs.OpenedLinkable.{last-name}
use Rattle.mq_exec.proofs.PlansRemoveCarried.{name-there}
use Rattle.mq_exec.proofs.PlansRenamed.{old-gone, rename-linkable, rename-possible, renamed}
use Rattle.mq_inodes.specs.Dirs.{AreDirsAt}
use Rattle.mq_inodes.specs.Opened.{IsTakeable, MayUnlink}
use Rattle.mq_inodes.specs.Pages.{IsHeld, pages_of}
use Rattle.mq_inodes.specs.Walks.{last_of}
use Rattle.mq_inodes.proofs.EditsBecoming.{carries-sound, over-then}
use Rattle.mq_layout.specs.Places.{inode_block}
use Rattle.mq_tree.specs.Volume.{Path, way}
use Rattle.mq_exec.proofs.rename.carry_rename.Goals as goal

pub unlink_name-requires-clause-possible : goal.unlink_name-requires-clause-possible
unlink_name-requires-clause-possible c =
    let g = c.args.working.now.geometry in
    let p = c.requires.possible in
    (p.1, c.args.renaming.source.number, carries-sound g (pages_of c.args.working.now) p.1 p.2, subst (λ (bs : List ℕ). MayUnlink g p.1 c.args.renaming.source.number bs) (sym c.deref-3.ensures.value) p.3.unlink)

pub unlink_name-requires-clause-held : goal.unlink_name-requires-clause-held
unlink_name-requires-clause-held c = subst (λ (bs : List ℕ). AreDirsAt (pages_of c.args.working.now) bs) (sym c.deref-3.ensures.value) c.requires.pages.source

pub unlink_name-requires-clause-found : goal.unlink_name-requires-clause-found
unlink_name-requires-clause-found c =
    let g = c.args.working.now.geometry in
    let p = c.requires.possible in
    let old : c.deref-4.result.now ≡ c.in-Some-Some.old.now = cc (c.old.view_is, c.deref-4.ensures.value) in
    let from : c.deref.result.now ≡ c.args.from.now = cc (c.from.view_is, c.deref.ensures.value) in
    let last = last-name c.args.from.now c.in-Some-Some.old.now (c.in-Some-Some.ensures.value ∙ ap (λ (ns : Path). slice_get ns (length ns - 1)) from) in
    name-there g (pages_of c.args.working.now) p.1 c.args.renaming.source.number c.args.renaming.inode c.deref-4.result.now (last_of (way c.args.from.now)) c.deref-3.result.now _ p.2 p.3.unlink p.3.found c.requires.pages.source (old ∙ last) c.deref-3.ensures.value

pub link_name-requires-clause-possible : goal.link_name-requires-clause-possible
link_name-requires-clause-possible c =
    let g = c.args.working.now.geometry in
    let p = c.requires.possible in
    let e = c.in_ok-unlink_name.ensures in
    let old : c.deref-4.result.now ≡ c.in-Some-Some.old.now = cc (c.old.view_is, c.deref-4.ensures.value) in
    let from : c.deref.result.now ≡ c.args.from.now = cc (c.from.view_is, c.deref.ensures.value) in
    let last = last-name c.args.from.now c.in-Some-Some.old.now (c.in-Some-Some.ensures.value ∙ ap (λ (ns : Path). slice_get ns (length ns - 1)) from) in
    let now : c.deref-5.result.now ≡ c.in-Some-Some.new.now = cc (c.new.view_is, c.deref-5.ensures.value) in
    let to : c.deref-2.result.now ≡ c.args.to.now = cc (c.to.view_is, c.deref-2.ensures.value) in
    let end = last-name c.args.to.now c.in-Some-Some.new.now (c.in-Some-Some.ensures'.value ∙ ap (λ (ns : Path). slice_get ns (length ns - 1)) to) in
    let gone = old-gone g p.0 p.1 c.args.from.now c.args.to.now c.args.renaming c.deref-4.result.now c.deref-3.result.now c.args.working.now c.unlink_name.new.self p.2 p.3 (old ∙ last) c.deref-3.ensures.value e.unlinked in
    rename-possible g c.unlink_name.new.self.geometry p.0 p.1 c.args.from.now c.args.to.now c.args.renaming c.deref-5.result.now c.deref-6.result.now c.args.working.now c.unlink_name.new.self e.over.view.geometry (now ∙ end) c.deref-6.ensures.value p.3 gone

pub link_name-requires-clause-held : goal.link_name-requires-clause-held
link_name-requires-clause-held c =
    let g = c.args.working.now.geometry in
    let p = c.requires.possible in
    let e = c.in_ok-unlink_name.ensures in
    let old : c.deref-4.result.now ≡ c.in-Some-Some.old.now = cc (c.old.view_is, c.deref-4.ensures.value) in
    let from : c.deref.result.now ≡ c.args.from.now = cc (c.from.view_is, c.deref.ensures.value) in
    let last = last-name c.args.from.now c.in-Some-Some.old.now (c.in-Some-Some.ensures.value ∙ ap (λ (ns : Path). slice_get ns (length ns - 1)) from) in
    let gone = old-gone g p.0 p.1 c.args.from.now c.args.to.now c.args.renaming c.deref-4.result.now c.deref-3.result.now c.args.working.now c.unlink_name.new.self p.2 p.3 (old ∙ last) c.deref-3.ensures.value e.unlinked in
    let h = rename-linkable g p.0 p.1 c.args.from.now c.args.to.now c.args.renaming c.args.working.now c.unlink_name.new.self p.3 c.requires.pages e.over gone in
    h.dirs

pub link_name-requires-clause-picks : goal.link_name-requires-clause-picks
link_name-requires-clause-picks c =
    let g = c.args.working.now.geometry in
    let p = c.requires.possible in
    let e = c.in_ok-unlink_name.ensures in
    let old : c.deref-4.result.now ≡ c.in-Some-Some.old.now = cc (c.old.view_is, c.deref-4.ensures.value) in
    let from : c.deref.result.now ≡ c.args.from.now = cc (c.from.view_is, c.deref.ensures.value) in
    let last = last-name c.args.from.now c.in-Some-Some.old.now (c.in-Some-Some.ensures.value ∙ ap (λ (ns : Path). slice_get ns (length ns - 1)) from) in
    let gone = old-gone g p.0 p.1 c.args.from.now c.args.to.now c.args.renaming c.deref-4.result.now c.deref-3.result.now c.args.working.now c.unlink_name.new.self p.2 p.3 (old ∙ last) c.deref-3.ensures.value e.unlinked in
    let h = rename-linkable g p.0 p.1 c.args.from.now c.args.to.now c.args.renaming c.args.working.now c.unlink_name.new.self p.3 c.requires.pages e.over gone in
    subst (λ (x : Geometry). All (IsTakeable x (pages_of c.unlink_name.new.self)) c.deref-6.result.now) (sym e.over.view.geometry) (subst (λ (bs : List ℕ). All (IsTakeable g (pages_of c.unlink_name.new.self)) bs) (sym c.deref-6.ensures.value) h.takes)

pub link_name-requires-clause-table : goal.link_name-requires-clause-table
link_name-requires-clause-table c =
    let g = c.args.working.now.geometry in
    let p = c.requires.possible in
    let e = c.in_ok-unlink_name.ensures in
    let old : c.deref-4.result.now ≡ c.in-Some-Some.old.now = cc (c.old.view_is, c.deref-4.ensures.value) in
    let from : c.deref.result.now ≡ c.args.from.now = cc (c.from.view_is, c.deref.ensures.value) in
    let last = last-name c.args.from.now c.in-Some-Some.old.now (c.in-Some-Some.ensures.value ∙ ap (λ (ns : Path). slice_get ns (length ns - 1)) from) in
    let gone = old-gone g p.0 p.1 c.args.from.now c.args.to.now c.args.renaming c.deref-4.result.now c.deref-3.result.now c.args.working.now c.unlink_name.new.self p.2 p.3 (old ∙ last) c.deref-3.ensures.value e.unlinked in
    let h = rename-linkable g p.0 p.1 c.args.from.now c.args.to.now c.args.renaming c.args.working.now c.unlink_name.new.self p.3 c.requires.pages e.over gone in
    subst (λ (x : Geometry). IsHeld (pages_of c.unlink_name.new.self) (inode_block x c.args.renaming.directory.number)) (sym e.over.view.geometry) h.table

pub link_name-requires-clause-pointers : goal.link_name-requires-clause-pointers
link_name-requires-clause-pointers c =
    let g = c.args.working.now.geometry in
    let p = c.requires.possible in
    let e = c.in_ok-unlink_name.ensures in
    let old : c.deref-4.result.now ≡ c.in-Some-Some.old.now = cc (c.old.view_is, c.deref-4.ensures.value) in
    let from : c.deref.result.now ≡ c.args.from.now = cc (c.from.view_is, c.deref.ensures.value) in
    let last = last-name c.args.from.now c.in-Some-Some.old.now (c.in-Some-Some.ensures.value ∙ ap (λ (ns : Path). slice_get ns (length ns - 1)) from) in
    let gone = old-gone g p.0 p.1 c.args.from.now c.args.to.now c.args.renaming c.deref-4.result.now c.deref-3.result.now c.args.working.now c.unlink_name.new.self p.2 p.3 (old ∙ last) c.deref-3.ensures.value e.unlinked in
    let h = rename-linkable g p.0 p.1 c.args.from.now c.args.to.now c.args.renaming c.args.working.now c.unlink_name.new.self p.3 c.requires.pages e.over gone in
    h.pointers

pub returns-clause-over : goal.returns-clause-over
returns-clause-over c =
    on_ok_weaker c.link_name.result (over-then c.args.working.now c.unlink_name.new.self c.link_name.new.self c.in_ok-unlink_name.ensures.over) c.link_name.ensures.over

pub returns-clause-moved : goal.returns-clause-moved
returns-clause-moved c =
    let g = c.args.working.now.geometry in
    let e = c.in_ok-unlink_name.ensures in
    let old : c.deref-4.result.now ≡ c.in-Some-Some.old.now = cc (c.old.view_is, c.deref-4.ensures.value) in
    let from : c.deref.result.now ≡ c.args.from.now = cc (c.from.view_is, c.deref.ensures.value) in
    let last = last-name c.args.from.now c.in-Some-Some.old.now (c.in-Some-Some.ensures.value ∙ ap (λ (ns : Path). slice_get ns (length ns - 1)) from) in
    let now : c.deref-5.result.now ≡ c.in-Some-Some.new.now = cc (c.new.view_is, c.deref-5.ensures.value) in
    let to : c.deref-2.result.now ≡ c.args.to.now = cc (c.to.view_is, c.deref-2.ensures.value) in
    let end = last-name c.args.to.now c.in-Some-Some.new.now (c.in-Some-Some.ensures'.value ∙ ap (λ (ns : Path). slice_get ns (length ns - 1)) to) in
    on_ok_weaker c.link_name.result (λ links q v agrees plan.
    let gone = old-gone g q v c.args.from.now c.args.to.now c.args.renaming c.deref-4.result.now c.deref-3.result.now c.args.working.now c.unlink_name.new.self agrees plan (old ∙ last) c.deref-3.ensures.value e.unlinked in
    renamed g c.unlink_name.new.self.geometry q v c.args.from.now c.args.to.now c.args.renaming c.deref-5.result.now c.deref-6.result.now c.args.working.now c.unlink_name.new.self c.link_name.new.self e.over.view.geometry (now ∙ end) c.deref-6.ensures.value plan e.over gone links) c.link_name.ensures.linked
