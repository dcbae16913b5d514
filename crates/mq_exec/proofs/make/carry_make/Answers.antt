use Rattle.std.proofs.Common.{◌≡◌, ◌-◌, ℕ, List, sym, ap, subst, ◌∙◌, length}
use Rattle.std.specs.Prelude.{slice_get}
use Rattle.mq_exec.specs.Plans.{made_entry}
use Rattle.mq_inodes.specs.Bare.{empty_body, with_inode}
use Rattle.mq_inodes.specs.Pages.{IsHeld, pages_of}
use Rattle.std.specs.List.{All}
use Rattle.std.proofs.lemmas.Result.{on_ok_weaker}
use Rattle.mq_blocks.specs.declared.geometry.Geometry.{Geometry}
use Rattle.mq_inodes.specs.Edits.{Carries}
use Rattle.mq_inodes.specs.Opened.{IsTakeable}
use Rattle.mq_layout.specs.Places.{inode_block}
use Rattle.mq_tree.specs.Volume.{Path}
use Rattle.mq_exec.proofs.OpenedLinkable.{last-name, link-at, name-added}
use Rattle.mq_exec.proofs.PlansCreations.{made-link, made-linkable, made-slots}
use Rattle.mq_inodes.proofs.EditsBecoming.{becomes-then, carries-sound, over-then}
use Rattle.mq_exec.proofs.make.carry_make.Goals as goal

pub make_unseen_inode-requires-clause-low : goal.make_unseen_inode-requires-clause-low
make_unseen_inode-requires-clause-low c = c.requires.possible.3.low

pub make_unseen_inode-requires-clause-possible : goal.make_unseen_inode-requires-clause-possible
make_unseen_inode-requires-clause-possible c =
    let p = c.requires.possible in
    (p.1, carries-sound c.args.working.now.geometry (pages_of c.args.working.now) p.1 p.2)

pub make_unseen_inode-requires-clause-marks : goal.make_unseen_inode-requires-clause-marks
make_unseen_inode-requires-clause-marks c = c.requires.pages.marks

pub link_name_at-requires-clause-possible : goal.link_name_at-requires-clause-possible
link_name_at-requires-clause-possible c =
    let g = c.args.working.now.geometry in
    let p = c.requires.possible in
    let e = c.in_ok-make_unseen_inode.ensures in
    let plan = p.3 in
    let y = empty_body c.args.is_directory in
    let path : c.deref.result.now ≡ c.args.path.now = cc (c.path.view_is, c.deref.ensures.value) in
    let name : c.deref-2.result.now ≡ c.in-Some.name.now = cc (c.name.view_is, c.deref-2.ensures.value) in
    let last = last-name c.args.path.now c.in-Some.name.now (c.in-Some.ensures.value ∙ ap (λ (ns : Path). slice_get ns (length ns - 1)) path) in
    let made = e.carried p.1 (carries-sound g (pages_of c.args.working.now) p.1 p.2) (p.2.sound.nodes c.args.creation.inode) plan.free in
    let w = with_inode p.1 c.args.creation.inode y in
    let entry = made_entry c.args.path.now c.args.creation in (
      p.0,
      w,
      subst (λ (h : Geometry). Carries h (pages_of c.make_unseen_inode.new.self) w) (sym e.over.view.geometry) made,
      link-at g c.make_unseen_inode.new.self.geometry p.0 w c.args.creation.directory entry c.deref-2.result.now c.args.creation.picks.items c.deref-3.result.now e.over.view.geometry (name ∙ last) c.deref-3.ensures.value
          (made-link g p.0 p.1 c.args.creation.inode y c.args.creation.directory entry c.args.creation.picks.items p.2.sound plan.low plan.free plan.link),
    )

pub link_name_at-requires-clause-held : goal.link_name_at-requires-clause-held
link_name_at-requires-clause-held c =
    let g = c.args.working.now.geometry in
    let p = c.requires.possible in
    let e = c.in_ok-make_unseen_inode.ensures in
    let h = made-linkable g p.0 p.1 (empty_body c.args.is_directory) c.args.path.now c.args.creation c.args.working.now c.make_unseen_inode.new.self p.2 p.3 c.requires.pages c.requires.free e.over (e.carried p.1 (carries-sound g (pages_of c.args.working.now) p.1 p.2) (p.2.sound.nodes c.args.creation.inode) p.3.free) in
    h.dirs

pub link_name_at-requires-clause-picks : goal.link_name_at-requires-clause-picks
link_name_at-requires-clause-picks c =
    let g = c.args.working.now.geometry in
    let p = c.requires.possible in
    let e = c.in_ok-make_unseen_inode.ensures in
    let h = made-linkable g p.0 p.1 (empty_body c.args.is_directory) c.args.path.now c.args.creation c.args.working.now c.make_unseen_inode.new.self p.2 p.3 c.requires.pages c.requires.free e.over (e.carried p.1 (carries-sound g (pages_of c.args.working.now) p.1 p.2) (p.2.sound.nodes c.args.creation.inode) p.3.free) in
    subst (λ (x : Geometry). All (IsTakeable x (pages_of c.make_unseen_inode.new.self)) c.deref-3.result.now) (sym e.over.view.geometry) (subst (λ (bs : List ℕ). All (IsTakeable g (pages_of c.make_unseen_inode.new.self)) bs) (sym c.deref-3.ensures.value) h.takes)

pub link_name_at-requires-clause-table : goal.link_name_at-requires-clause-table
link_name_at-requires-clause-table c =
    let g = c.args.working.now.geometry in
    let p = c.requires.possible in
    let e = c.in_ok-make_unseen_inode.ensures in
    let h = made-linkable g p.0 p.1 (empty_body c.args.is_directory) c.args.path.now c.args.creation c.args.working.now c.make_unseen_inode.new.self p.2 p.3 c.requires.pages c.requires.free e.over (e.carried p.1 (carries-sound g (pages_of c.args.working.now) p.1 p.2) (p.2.sound.nodes c.args.creation.inode) p.3.free) in
    subst (λ (x : Geometry). IsHeld (pages_of c.make_unseen_inode.new.self) (inode_block x c.args.creation.directory.number)) (sym e.over.view.geometry) h.table

pub link_name_at-requires-clause-pointers : goal.link_name_at-requires-clause-pointers
link_name_at-requires-clause-pointers c =
    let g = c.args.working.now.geometry in
    let p = c.requires.possible in
    let e = c.in_ok-make_unseen_inode.ensures in
    let h = made-linkable g p.0 p.1 (empty_body c.args.is_directory) c.args.path.now c.args.creation c.args.working.now c.make_unseen_inode.new.self p.2 p.3 c.requires.pages c.requires.free e.over (e.carried p.1 (carries-sound g (pages_of c.args.working.now) p.1 p.2) (p.2.sound.nodes c.args.creation.inode) p.3.free) in
    h.pointers

pub link_name_at-requires-clause-slot : goal.link_name_at-requires-clause-slot
link_name_at-requires-clause-slot c =
    let g = c.args.working.now.geometry in
    let p = c.requires.possible in
    let e = c.in_ok-make_unseen_inode.ensures in
    let y = empty_body c.args.is_directory in
    let carries = carries-sound g (pages_of c.args.working.now) p.1 p.2 in
    let made = e.carried p.1 carries (p.2.sound.nodes c.args.creation.inode) p.3.free in
    let h = made-linkable g p.0 p.1 y c.args.path.now c.args.creation c.args.working.now c.make_unseen_inode.new.self p.2 p.3 c.requires.pages c.requires.free e.over made in
    made-slots g p.0 p.1 y c.args.path.now c.args.creation c.args.working.now c.make_unseen_inode.new.self p.2 carries p.3 c.requires.pages h.dirs made

pub returns-clause-over : goal.returns-clause-over
returns-clause-over c =
    on_ok_weaker c.link_name_at.result (over-then c.args.working.now c.make_unseen_inode.new.self c.link_name_at.new.self c.in_ok-make_unseen_inode.ensures.over) c.link_name_at.ensures.over

pub returns-clause-carried : goal.returns-clause-carried
returns-clause-carried c =
    let g = c.args.working.now.geometry in
    let e = c.in_ok-make_unseen_inode.ensures in
    let y = empty_body c.args.is_directory in
    let path : c.deref.result.now ≡ c.args.path.now = cc (c.path.view_is, c.deref.ensures.value) in
    let name : c.deref-2.result.now ≡ c.in-Some.name.now = cc (c.name.view_is, c.deref-2.ensures.value) in
    let last = last-name c.args.path.now c.in-Some.name.now (c.in-Some.ensures.value ∙ ap (λ (ns : Path). slice_get ns (length ns - 1)) path) in
    let entry = made_entry c.args.path.now c.args.creation in
    on_ok_weaker c.link_name_at.result (λ linked q v agrees plan.
    let carried = e.carried v (carries-sound g (pages_of c.args.working.now) v agrees) (agrees.sound.nodes c.args.creation.inode) plan.free in
    let w = with_inode v c.args.creation.inode y in
    (name-added g c.make_unseen_inode.new.self.geometry q w c.args.creation.directory entry c.deref-2.result.now c.args.creation.picks.items c.deref-3.result.now c.make_unseen_inode.new.self c.link_name_at.new.self e.over.view.geometry (name ∙ last) c.deref-3.ensures.value carried
    (made-link g q v c.args.creation.inode y c.args.creation.directory entry c.args.creation.picks.items agrees.sound plan.low plan.free plan.link) (linked q w)).carries) c.link_name_at.ensures.linked

pub returns-clause-made : goal.returns-clause-made
returns-clause-made c =
    let g = c.args.working.now.geometry in
    let e = c.in_ok-make_unseen_inode.ensures in
    let y = empty_body c.args.is_directory in
    let path : c.deref.result.now ≡ c.args.path.now = cc (c.path.view_is, c.deref.ensures.value) in
    let name : c.deref-2.result.now ≡ c.in-Some.name.now = cc (c.name.view_is, c.deref-2.ensures.value) in
    let last = last-name c.args.path.now c.in-Some.name.now (c.in-Some.ensures.value ∙ ap (λ (ns : Path). slice_get ns (length ns - 1)) path) in
    let entry = made_entry c.args.path.now c.args.creation in
    on_ok_weaker c.link_name_at.result (λ linked held q v agrees plan.
    let made = e.made held v (carries-sound g (pages_of c.args.working.now) v agrees) (agrees.sound.nodes c.args.creation.inode) plan.free in
    let w = with_inode v c.args.creation.inode y in
    becomes-then g v w _ c.args.working.now c.make_unseen_inode.new.self c.link_name_at.new.self e.over made
    (name-added g c.make_unseen_inode.new.self.geometry q w c.args.creation.directory entry c.deref-2.result.now c.args.creation.picks.items c.deref-3.result.now c.make_unseen_inode.new.self c.link_name_at.new.self e.over.view.geometry (name ∙ last) c.deref-3.ensures.value made.carries
    (made-link g q v c.args.creation.inode y c.args.creation.directory entry c.args.creation.picks.items agrees.sound plan.low plan.free plan.link) (linked q w))) c.link_name_at.ensures.linked
