use Rattle.std.proofs.Common.{◌≡◌, ◌-◌, ℕ, List, sym, ap, subst, ◌∙◌, length}
use Rattle.std.specs.Prelude.{slice_get}
use Rattle.std.specs.List.{All}
use Rattle.std.proofs.lemmas.Result.{on_ok_weaker}
use Rattle.mq_blocks.specs.declared.geometry.Geometry.{Geometry}
use Rattle.mq_exec.proofs.OpenedLinkable.{last-name}
use Rattle.mq_exec.proofs.PlansLinked.{link-added, link-counted, link-linkable, link-possible}
use Rattle.mq_inodes.specs.Opened.{IsTakeable}
use Rattle.mq_inodes.specs.Pages.{IsHeld, pages_of}
use Rattle.mq_inodes.proofs.EditsBecoming.{carries-sound, over-then}
use Rattle.mq_layout.specs.Places.{inode_block}
use Rattle.mq_tree.specs.Volume.{Path}
use Rattle.mq_exec.proofs.link.carry_link.Goals as goal

pub put_links-requires-clause-possible : goal.put_links-requires-clause-possible
put_links-requires-clause-possible c =
    let p = c.requires.possible in
    (p.1, carries-sound c.args.working.now.geometry (pages_of c.args.working.now) p.1 p.2, p.3.count)

pub link_name-requires-clause-possible : goal.link_name-requires-clause-possible
link_name-requires-clause-possible c =
    let g = c.args.working.now.geometry in
    let p = c.requires.possible in
    let e = c.in_ok-put_links.ensures in
    let now : c.deref-2.result.now ≡ c.in-Some.name.now = cc (c.name.view_is, c.deref-2.ensures.value) in
    let to : c.deref.result.now ≡ c.args.to.now = cc (c.to.view_is, c.deref.ensures.value) in
    let end = last-name c.args.to.now c.in-Some.name.now (c.in-Some.ensures.value ∙ ap (λ (ns : Path). slice_get ns (length ns - 1)) to) in
    let counted = link-counted g p.0 p.1 c.args.from.now c.args.to.now c.args.linking c.args.working.now c.put_links.new.self p.2 p.3 e.counted in
    link-possible g c.put_links.new.self.geometry p.0 p.1 c.args.from.now c.args.to.now c.args.linking c.deref-2.result.now c.deref-3.result.now c.args.working.now c.put_links.new.self e.over.view.geometry (now ∙ end) c.deref-3.ensures.value p.3 counted

pub link_name-requires-clause-held : goal.link_name-requires-clause-held
link_name-requires-clause-held c =
    let g = c.args.working.now.geometry in
    let p = c.requires.possible in
    let e = c.in_ok-put_links.ensures in
    let counted = link-counted g p.0 p.1 c.args.from.now c.args.to.now c.args.linking c.args.working.now c.put_links.new.self p.2 p.3 e.counted in
    let h = link-linkable g p.0 p.1 c.args.from.now c.args.to.now c.args.linking c.args.working.now c.put_links.new.self p.3 c.requires.pages e.over counted in
    h.dirs

pub link_name-requires-clause-picks : goal.link_name-requires-clause-picks
link_name-requires-clause-picks c =
    let g = c.args.working.now.geometry in
    let p = c.requires.possible in
    let e = c.in_ok-put_links.ensures in
    let counted = link-counted g p.0 p.1 c.args.from.now c.args.to.now c.args.linking c.args.working.now c.put_links.new.self p.2 p.3 e.counted in
    let h = link-linkable g p.0 p.1 c.args.from.now c.args.to.now c.args.linking c.args.working.now c.put_links.new.self p.3 c.requires.pages e.over counted in
    subst (λ (x : Geometry). All (IsTakeable x (pages_of c.put_links.new.self)) c.deref-3.result.now) (sym e.over.view.geometry) (subst (λ (bs : List ℕ). All (IsTakeable g (pages_of c.put_links.new.self)) bs) (sym c.deref-3.ensures.value) h.takes)

pub link_name-requires-clause-table : goal.link_name-requires-clause-table
link_name-requires-clause-table c =
    let g = c.args.working.now.geometry in
    let p = c.requires.possible in
    let e = c.in_ok-put_links.ensures in
    let counted = link-counted g p.0 p.1 c.args.from.now c.args.to.now c.args.linking c.args.working.now c.put_links.new.self p.2 p.3 e.counted in
    let h = link-linkable g p.0 p.1 c.args.from.now c.args.to.now c.args.linking c.args.working.now c.put_links.new.self p.3 c.requires.pages e.over counted in
    subst (λ (x : Geometry). IsHeld (pages_of c.put_links.new.self) (inode_block x c.args.linking.directory.number)) (sym e.over.view.geometry) h.table

pub link_name-requires-clause-pointers : goal.link_name-requires-clause-pointers
link_name-requires-clause-pointers c =
    let g = c.args.working.now.geometry in
    let p = c.requires.possible in
    let e = c.in_ok-put_links.ensures in
    let counted = link-counted g p.0 p.1 c.args.from.now c.args.to.now c.args.linking c.args.working.now c.put_links.new.self p.2 p.3 e.counted in
    let h = link-linkable g p.0 p.1 c.args.from.now c.args.to.now c.args.linking c.args.working.now c.put_links.new.self p.3 c.requires.pages e.over counted in
    h.pointers

pub returns-clause-over : goal.returns-clause-over
returns-clause-over c =
    on_ok_weaker c.link_name.result (over-then c.args.working.now c.put_links.new.self c.link_name.new.self c.in_ok-put_links.ensures.over) c.link_name.ensures.over

pub returns-clause-added : goal.returns-clause-added
returns-clause-added c =
    let g = c.args.working.now.geometry in
    let e = c.in_ok-put_links.ensures in
    let now : c.deref-2.result.now ≡ c.in-Some.name.now = cc (c.name.view_is, c.deref-2.ensures.value) in
    let to : c.deref.result.now ≡ c.args.to.now = cc (c.to.view_is, c.deref.ensures.value) in
    let end = last-name c.args.to.now c.in-Some.name.now (c.in-Some.ensures.value ∙ ap (λ (ns : Path). slice_get ns (length ns - 1)) to) in
    on_ok_weaker c.link_name.result (λ adds q v agrees plan.
    let counted = link-counted g q v c.args.from.now c.args.to.now c.args.linking c.args.working.now c.put_links.new.self agrees plan e.counted in
    link-added g c.put_links.new.self.geometry q v c.args.from.now c.args.to.now c.args.linking c.deref-2.result.now c.deref-3.result.now c.args.working.now c.put_links.new.self c.link_name.new.self e.over.view.geometry (now ∙ end) c.deref-3.ensures.value plan e.over counted adds) c.link_name.ensures.linked
