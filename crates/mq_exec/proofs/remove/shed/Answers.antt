use Rattle.std.proofs.Common.{◌≡◌, ◌-◌, refl, sym, ap, subst, ◌∙◌, length}
use Rattle.std.specs.Prelude.{slice_get}
use Rattle.std.proofs.lemmas.Result.{on_ok_weaker}
use Rattle.mq_exec.proofs.OpenedLinkable.{last-name}
use Rattle.mq_exec.proofs.PlansRemoveCarried.{name-there}
use Rattle.mq_exec.proofs.PlansShed.{shed-becomes, shed-carried}
use Rattle.mq_inodes.specs.Pages.{IsHeld, pages_of}
use Rattle.mq_inodes.proofs.EditsBecoming.{carries-sound}
use Rattle.mq_inodes.specs.Walks.{last_of}
use Rattle.mq_blocks.specs.declared.geometry.Geometry.{Geometry}
use Rattle.mq_layout.specs.Places.{inode_block}
use Rattle.mq_tree.specs.Volume.{Path, way}
use Rattle.mq_exec.proofs.remove.shed.Goals as goal

pub unlink_name-requires-clause-possible : goal.unlink_name-requires-clause-possible
unlink_name-requires-clause-possible c =
    let p = c.requires.possible in
    (p.0, c.args.found.now.directory, carries-sound c.args.working.now.geometry (pages_of c.args.working.now) p.0 p.1, p.2.unlink)

pub unlink_name-requires-clause-found : goal.unlink_name-requires-clause-found
unlink_name-requires-clause-found c =
    let g = c.args.working.now.geometry in
    let p = c.requires.possible in
    let path : c.deref.result.now ≡ c.args.path.now = cc (c.path.view_is, c.deref.ensures.value) in
    let name : c.deref-2.result.now ≡ c.in-Some.name.now = cc (c.name.view_is, c.deref-2.ensures.value) in
    let last = last-name c.args.path.now c.in-Some.name.now (c.in-Some.ensures.value ∙ ap (λ (ns : Path). slice_get ns (length ns - 1)) path) in
    name-there g (pages_of c.args.working.now) p.0 c.args.found.now.directory c.args.found.now.number c.deref-2.result.now (last_of (way c.args.path.now)) c.args.blocks.now c.args.blocks.now p.1 p.2.unlink p.2.found c.requires.dirs (name ∙ last) refl

pub put_links-requires-clause-possible : goal.put_links-requires-clause-possible
put_links-requires-clause-possible c =
    let g = c.args.working.now.geometry in
    let p = c.requires.possible in
    let e = c.in_ok-unlink_name.ensures in
    let path : c.deref.result.now ≡ c.args.path.now = cc (c.path.view_is, c.deref.ensures.value) in
    let name : c.deref-2.result.now ≡ c.in-Some.name.now = cc (c.name.view_is, c.deref-2.ensures.value) in
    let last = last-name c.args.path.now c.in-Some.name.now (c.in-Some.ensures.value ∙ ap (λ (ns : Path). slice_get ns (length ns - 1)) path) in
    shed-carried g c.unlink_name.new.self.geometry p.0 c.args.path.now c.deref-2.result.now c.args.blocks.now c.args.found.now c.args.working.now c.unlink_name.new.self e.over.view.geometry p.1 p.2 (name ∙ last) e.unlinked

pub put_links-requires-clause-table : goal.put_links-requires-clause-table
put_links-requires-clause-table c =
    let e = c.in_ok-unlink_name.ensures in
    subst (λ (x : Geometry). IsHeld (pages_of c.unlink_name.new.self) (inode_block x c.args.found.now.number)) (sym e.over.view.geometry) (e.keeps.held (inode_block c.args.working.now.geometry c.args.found.now.number) c.requires.table)

pub returns-clause-shed : goal.returns-clause-shed
returns-clause-shed c =
    let g = c.args.working.now.geometry in
    let e = c.in_ok-unlink_name.ensures in
    let path : c.deref.result.now ≡ c.args.path.now = cc (c.path.view_is, c.deref.ensures.value) in
    let name : c.deref-2.result.now ≡ c.in-Some.name.now = cc (c.name.view_is, c.deref-2.ensures.value) in
    let last = last-name c.args.path.now c.in-Some.name.now (c.in-Some.ensures.value ∙ ap (λ (ns : Path). slice_get ns (length ns - 1)) path) in
    on_ok_weaker c.put_links.result (λ counts v agrees plan. shed-becomes g c.unlink_name.new.self.geometry v c.args.path.now c.deref-2.result.now c.args.blocks.now c.args.found.now c.args.working.now c.unlink_name.new.self c.put_links.new.self e.over.view.geometry agrees plan (name ∙ last) e.over e.unlinked counts) c.put_links.ensures.counted
